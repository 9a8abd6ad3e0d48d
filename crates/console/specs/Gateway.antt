-- A gateway that plays lines, as a session.
use Rattle.recording.specs.Session.{Session, session, reading}
use Rattle.console.specs.declared.input.Gateway.{Gateway}

-- what was read of a line, and the bytes of state and memory
abbrev pub session_of : Gateway → Session
session_of g = session (reading g.partial g.line) g.state g.memory

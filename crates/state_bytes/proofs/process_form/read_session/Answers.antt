-- `state_bytes::process_form::read_session` meets its contract. Assumes nothing.
use Rattle.state_bytes.proofs.process_form.read_session.Goals as goal

pub returns : goal.returns
returns c = rw (c.owed_of-owed.ensures, c.read_go-go.ensures)

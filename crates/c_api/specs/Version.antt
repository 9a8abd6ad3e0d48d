-- The version of the library, which the file VERSION has as text.
use Rattle.std.specs.Prelude.{ℕ, ◌+◌, ◌*◌, ℤ, pos}

-- a new major version changes what a call means or how it is made
abbrev pub major : ℕ
major = 0

-- a new minor version adds to it
abbrev pub minor : ℕ
minor = 8

-- and a new patch does neither
abbrev pub patch : ℕ
patch = 0

-- the three as one number, which grows from version to version: 0.8.0 is 800, and 1.2.3 would be 10203
abbrev pub version : ℤ
version = pos (10000 * major + 100 * minor + patch)

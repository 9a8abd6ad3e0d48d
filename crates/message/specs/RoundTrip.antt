-- Both directions between the two ends, for any table of forms.
use Rattle.std.specs.Prelude.{◌≡◌, List, ℕ, ◌≤◌, length, take}
use Rattle.lists.specs.Buffer.{Bytes}
use Rattle.format.specs.declared.header.Header.{Header}
use Rattle.format.specs.Outcome.{outcome, reading}
use Rattle.format.specs.Layout.{string_of}
use Rattle.message.specs.Exchange.{Forms, writes, reads}
use Rattle.format.specs.Sizes.{message_bytes}

-- the message that a writer left in its buffer is read as these fields and this string
pub record ReadAs (forms : Forms) (m : List ℕ) (h : Header) (string : List ℕ) : Type 0 where
  pub fields : reads forms m ≡ reading 0 h
  pub behind : string_of m ≡ string

-- writing these fields and this string is granted, and gives the message
pub record WrittenAs (forms : Forms) (h : Header) (string buffer m : List ℕ) : Type 0 where
  pub granted : (writes forms h string buffer).outcome ≡ outcome 0 (length m)
  pub bytes : take (length m) (writes forms h string buffer).buffer ≡ m

-- Writing a message and reading it gives it back, and only its written form is read as it.
pub record RoundTrip (forms : Forms) : Type 0 where
  pub written-is-read : (h : Header) (string buffer : List ℕ) (n : ℕ) → (writes forms h string buffer).outcome ≡ outcome 0 n
      → ReadAs forms (take n (writes forms h string buffer).buffer) h string
  pub read-is-written : (m : List ℕ) (h : Header) (buffer : List ℕ) → Bytes m → message_bytes ≤ length buffer → reads forms m ≡ reading 0 h
      → WrittenAs forms h (string_of m) buffer m

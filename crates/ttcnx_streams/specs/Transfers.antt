-- What is read of a reader, and what a writer takes, by the bytes that they are known to have.
use Rattle.std.specs.Prelude.{◌≡◌, ◌⊎◌, ℕ, ◌+◌, ◌≤◌, List, length, take, Option}
use Rattle.std.specs.Io.KnownBytes.{Appends, Consumes, IsAtEnd}
use Rattle.ttcnx_streams.specs.declared.counted.Counted.{Counted}

-- a reader or a writer at a moment: the bytes that it has still to give, or that it holds, where these are known, and how many
-- of its calls have failed
pub record Device : Type 0 where
  pub bytes : Option (List ℕ)
  pub failed : ℕ

-- a reader or a writer of code at a moment
abbrev pub device_by : {D : Type 0} → (D → Option (List ℕ)) → Counted D → Device
device_by known counted = record { bytes = known counted.device; failed = counted.failed }

-- a reader gave a text of at most so many bytes, and no call failed
pub record Gave (most : ℕ) (before after : Device) (text : List ℕ) : Type 0 where
  pub given : Consumes before.bytes after.bytes text
  pub at_most : length text ≤ most
  pub none_failed : after.failed ≡ before.failed

-- a reader was read to its end, or up to so many bytes
pub record WasRead (most : ℕ) (before after : Device) (text : List ℕ) : Type 0 where
  pub gave : Gave most before after text
  pub whole : IsAtEnd after.bytes ⊎ (length text ≡ most)

-- a reader gave some text of at most so many bytes, and no call failed
abbrev pub Stopped : ℕ → Device → Device → Type 0
Stopped most before after = (text : List ℕ) × Gave most before after text

-- a reader gave some text of at most so many bytes, and a call failed
pub record BrokeOff (most : ℕ) (before after : Device) : Type 0 where
  pub text : List ℕ
  pub given : Consumes before.bytes after.bytes text
  pub at_most : length text ≤ most
  pub one_failed : after.failed ≡ before.failed + 1

-- a writer took bytes, all of them, and no call failed
pub record Took (before after : Device) (bytes : List ℕ) : Type 0 where
  pub taken : Appends before.bytes after.bytes bytes
  pub none_failed : after.failed ≡ before.failed

-- a writer took a beginning of bytes, perhaps all of them, and a call failed
pub record TookPart (before after : Device) (bytes : List ℕ) : Type 0 where
  pub count : ℕ
  pub taken : Appends before.bytes after.bytes (take count bytes)
  pub one_failed : after.failed ≡ before.failed + 1

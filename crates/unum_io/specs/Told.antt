-- What is told of bytes that were read or written.
use Rattle.std.specs.Prelude.{◌≡◌, ℕ, ◌<◌, ◌≤◌, List, length, take, Option, Result, Ok, Err, Vec}
use Rattle.std.specs.declared.alloc.Global.{Global}
use Rattle.std.specs.Io.KnownBytes.{Consumes, Appends, IsAtEnd}
use Rattle.unum_io.specs.Causes.{Rose}
use Rattle.unum_io.specs.declared.all.ReadAll.{ReadAll}
use Rattle.unum_io.specs.declared.all.ReadAll.TheVariants.{TooLong, Fault, NoMemory}

-- more than max bytes were given
pub record GaveMore (old new : Option (List ℕ)) (max : ℕ) : Type 0 where
  pub given : List ℕ
  pub told : Consumes old new given
  pub more : max < length given

-- these bytes were given, to the end, and are at most max
pub record GaveAll (old new : Option (List ℕ)) (max : ℕ) (bytes : List ℕ) : Type 0 where
  pub told : Consumes old new bytes
  pub end : IsAtEnd new
  pub within : length bytes ≤ max

-- some bytes were given, at most max
pub record GaveSome (old new : Option (List ℕ)) (max : ℕ) : Type 0 where
  pub given : List ℕ
  pub told : Consumes old new given
  pub within : length given ≤ max

-- What `read_all` answers, of a source with these bytes and faults before and after. Where memory runs out, nothing is
-- said of how many bytes were given.
abbrev pub ReadsAll : (old new : Option (List ℕ)) (before now max : ℕ) → Result (Vec ℕ Global) ReadAll → Type 0
ReadsAll old new before now max (Ok bytes) = GaveAll old new max bytes.items
ReadsAll old new before now max (Err TooLong) = GaveMore old new max
ReadsAll old new before now max (Err Fault) = Rose before now × GaveSome old new max
ReadsAll old new before now max (Err NoMemory) = (given : List ℕ) × Consumes old new given

-- where no read failed, the count of faults is as it was before
abbrev pub CountsFaults : (before now : ℕ) → Result (Vec ℕ Global) ReadAll → Type 0
CountsFaults before now (Err Fault) = Rose before now
CountsFaults before now _ = now ≡ before

-- some front of the text was taken
pub record TookFront (old new : Option (List ℕ)) (text : List ℕ) : Type 0 where
  pub count : ℕ
  pub told : Appends old new (take count text)

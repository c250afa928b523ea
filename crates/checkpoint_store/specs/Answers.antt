-- What the calls of a store answer, as replies of the world.
use Rattle.std.specs.Prelude.{ℕ, List, Bool, cond, length}
use Rattle.place_name.specs.declared.obj.WasMarked.{WasMarked}
use Rattle.place_name.specs.declared.obj.WasMarked.TheVariants as was
use Rattle.world_model.specs.AnyCode.Code.{flags}
use Rattle.world_model.specs.AnyCode.World.{bits_or}
use Rattle.world_model.specs.AnyCode.Operations.{Condition, Absent, Live, Tombstone, Reply, WasAbsent, BitFull, BitNotFull}
use Rattle.world_model.specs.AnyCode.Operations.{BitTombstone, Finished}
use Rattle.checkpoint_store.specs.declared.answers.Made.{Made}
use Rattle.checkpoint_store.specs.declared.answers.Made.TheVariants as made
use Rattle.checkpoint_store.specs.declared.answers.Bit.{Bit}
use Rattle.checkpoint_store.specs.declared.answers.Bit.TheVariants as bit

-- what a Create does, by what the object was: it wins only where nothing ever was
abbrev pub made_of : Condition (List Bool) → Made
made_of Absent = made.Won
made_of (Live h) = made.Had
made_of Tombstone = made.HadTombstone

-- the bitmap of a fan with so many branches, by what its object is: one without a bit where there is none
abbrev pub bits_before : (count : ℕ) → Condition (List Bool) → List Bool
bits_before count (Live h) = bits_or (flags.none count) h
bits_before count c = flags.none count

-- whether the bitmap is full
abbrev pub full_reply : List Bool → Reply (List Bool)
full_reply bs = cond (flags.is_full (length bs) bs) BitFull BitNotFull

-- the reply of a Set
abbrev pub reply_of_bit : Bit → Reply (List Bool)
reply_of_bit bit.Full = BitFull
reply_of_bit bit.NotFull = BitNotFull
reply_of_bit bit.Tombstone = BitTombstone

-- the reply of a Mark
abbrev pub reply_of_mark : WasMarked → Reply (List Bool)
reply_of_mark was.Absent = WasAbsent
reply_of_mark was.Done = Finished

-- What a name feeds a hasher.
use Rattle.std.specs.Prelude.{ℕ, List, ◌++◌}
use Rattle.std.specs.List.{flat_map}
use Rattle.std.specs.Hash as fed
use Rattle.std.specs.Hash.{HashWrites}
use Rattle.place_name.specs.Names.{Seg, Place}

-- the hop, the index and the count of a step down
abbrev pub seg_writes : Seg → HashWrites
seg_writes s = fed.u32 s.hop ++ (fed.u32 s.index ++ fed.u32 s.count)

-- the number of an object's kind, the session, and each step down
abbrev pub scope_writes : (kind session : ℕ) → List Seg → HashWrites
scope_writes kind session trail = fed.u8 kind ++ (fed.u32 session ++ flat_map seg_writes trail)

-- the same, and the hop
abbrev pub place_writes : (kind : ℕ) → Place → HashWrites
place_writes kind p = scope_writes kind p.session p.trail ++ fed.u32 p.hop

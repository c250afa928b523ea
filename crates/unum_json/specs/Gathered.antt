-- The members of an object that is being read, as pairs in order or as a tree.
use Rattle.std.specs.Prelude.{List, map, String, string_bytes}
use Rattle.std.specs.declared.alloc.Global.{Global}
use Rattle.serde_json.specs.Data.{Members}
use Rattle.unum_json.specs.declared.gathering.Gathered.{Gathered}
use Rattle.unum_json.specs.declared.gathering.Gathered.TheVariants.{Few, Many}
use Rattle.unum_json.specs.declared.parsed.Value.{Value}
use Rattle.unum_json.specs.Parsed.{view, members_of, members_view}

-- the members that the entries of a tree stand for
abbrev pub tree_view : List (String Global × Value) → Members
tree_view es = members_of (map (λ e. (string_bytes e.0, view e.1)) es)

abbrev pub gathered : Gathered → Members
gathered (Few ms) = members_view ms
gathered (Many tree) = tree_view tree.entries

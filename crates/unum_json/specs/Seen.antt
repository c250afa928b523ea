-- The value that a caller sees variant by variant.
use Rattle.unum_json.specs.declared.value.Json.{Json}
use Rattle.unum_json.specs.declared.value.Json as json
use Rattle.unum_json.specs.declared.value.Json.TheOpen.{Json-F}
use Rattle.unum_json.specs.declared.kept.Seen.{Seen}
use Rattle.unum_json.specs.declared.kept.Seen.TheVariants as seen

abbrev pub shown : Seen → Json
shown seen.Null = json.Null
shown (seen.Bool b) = json.Bool b
shown (seen.Int i) = json.Int i
shown (seen.Str s) = json.Str s.now
shown (seen.Arr vs) = json.Arr vs.now
shown (seen.Obj fs) = json.Obj fs.now

-- the same, one layer deep
abbrev pub shape_of : Seen → Json-F Json
shape_of seen.Null = Json-F.Null
shape_of (seen.Bool b) = Json-F.Bool b
shape_of (seen.Int i) = Json-F.Int i
shape_of (seen.Str s) = Json-F.Str s.now
shape_of (seen.Arr vs) = Json-F.Arr vs.now
shape_of (seen.Obj fs) = Json-F.Obj fs.now

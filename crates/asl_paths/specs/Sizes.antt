-- The sizes of what a template is filled with, as far as they are counted.
use Rattle.std.specs.Prelude.{ℕ, ◌+◌, ◌-◌, ◌^◌, min, max, sum, map, nat_le, ◌&&◌, Bool, List}
use Rattle.unum_json.specs.declared.value.Json.{Json}
use Rattle.unum_json.specs.Tree.{nodes, depth, fields_sum, largest, largest_value, on_values}
use Rattle.asl_paths.specs.declared.sizing.Size.{Size}

abbrev pub size : (nodes depth : ℕ) → Size
size n d = record { nodes = min n (2 ^ 64 - 1); depth = min d (2 ^ 32 - 1) }

abbrev pub value_size : Json → Size
value_size v = size (nodes v) (depth v)

-- of the items of an array
abbrev pub items_size : List Json → Size
items_size vs = size (sum (map nodes vs)) (largest (map depth vs))

-- of the fields of an object
abbrev pub fields_size : List (List ℕ × Json) → Size
fields_size fs = size (fields_sum (on_values nodes fs)) (largest_value (on_values depth fs))

-- of both, beside one another
abbrev pub joined : Size → Size → Size
joined a b = record { nodes = min (a.nodes + b.nodes) (2 ^ 64 - 1); depth = max a.depth b.depth }

-- of the array or the object that has these parts
abbrev pub around : Size → Size
around s = size (s.nodes + 1) (s.depth + 1)

-- at most 200,000 nodes and depth at most 120
abbrev pub is_small_size : Size → Bool
is_small_size s = nat_le s.nodes 200000 && nat_le s.depth 120

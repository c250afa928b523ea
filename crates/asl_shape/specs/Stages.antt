-- The five stages of the data flow round a state.
-- Source: Amazon States Language, "Input and Output Processing".
use Rattle.std.specs.Prelude.{◌≡◌, Bool, true, false, not, ◌&&◌, IsTrue, Option, Some, None}
use Rattle.asl_paths.specs.declared.path.Path.{Path}
use Rattle.asl_paths.specs.declared.template.Template.{Template}

pub record Stages : Type 0 where
  pub input : Option Path
  pub parameters : Option Template
  pub selector : Option Template
  pub result : Option Path
  pub output : Option Path

-- a template that was read without the paths into an item
abbrev pub IsPlain : Template → Type 0
IsPlain t = t.item ≡ false

abbrev pub is_plain : Option Template → Bool
is_plain None = true
is_plain (Some t) = not t.item

abbrev pub IsShape : Option Template → Option Template → Type 0
IsShape parameters selector = IsTrue (is_plain parameters && is_plain selector)

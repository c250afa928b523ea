-- What a walk found, as the rule that a value breaks.
use Rattle.std.proofs.Common.{◌≡◌, List, [], ◌∷◌, Option, Some, None, Ok, Err, sym, ap, subst, ◌∙◌}
use Rattle.serde_json.specs.Data.{Data}
use Rattle.unum_json.specs.Whole.{Place}
use Rattle.unum_json.specs.declared.value.Json.{Json}
use Rattle.asl_read.specs.Objects.{Broken}
use Rattle.asl_read.specs.Checks.{Checks, first}
use Rattle.asl_read.specs.declared.fault.ReadFault.{ReadFault}
use Rattle.asl_read.specs.declared.fault.ReadFault.TheVariants as fault
use Rattle.ir_text.specs.Flat.{Ir}
use Rattle.ir_text.specs.declared.fault.IRule.{IRule}
use Rattle.ir_text.specs.declared.fault.IRule.TheVariants.{I1, I2, I3, I4}
use Rattle.ir_text.specs.declared.fault.IrError.{IrError}
use Rattle.ir_text.specs.declared.fault.IrError.TheVariants as error
use Rattle.ir_text.specs.Printed.{ir_value}
use Rattle.ir_text.specs.Spelled.{ir_of}
use Rattle.ir_text.specs.Texts.{unlike}
use Rattle.ir_text.specs.Reads.{Blames, IsFirst, IsPrinted, Reads, Tells, first_place, malformed, out_of_range}

-- the error tells that rule, and the first place
abbrev pub Found : IRule → IrError → List Broken → Type 0
Found rule (error.BadIr r at) due = (r ≡ rule) × (first_place due ≡ Some at)
Found rule error.NoMemory due = Unit {0}

first_at : (due : List Broken) (b : Broken) → first due ≡ Some b → first_place due ≡ Some b.at
first_at [] b e = absurd (let none : Option Broken = None in let g : none ≡ Some b = e in cc)
first_at (x ∷ xs) b e = ap Some (ap (λ (y : Broken). y.at) (let g : Some x ≡ Some b = e in let h : x ≡ b = cc in h))

pub told : (rule : IRule) (e : IrError) (f : ReadFault) (due : List Broken) → Tells rule e f → Checks {A = Unit {0}} (Err f) due
    → Found rule e due
told rule (error.BadIr r at) (fault.Refused l p) due t h = (t.0, first_at due (record { rule = l; at = p }) h ∙ ap Some (sym t.1))
told rule (error.BadIr r at) fault.NoMemory due t h = absurd t
told rule error.NoMemory (fault.Refused l p) due t h = tt
told rule error.NoMemory fault.NoMemory due t h = tt

-- ---------------------------------------------------------------- a value that is not printed

abbrev pub NotPrinted : Data → Type 0
NotPrinted d = IsPrinted (ir_of d) d → ⊥

pub blames_first : (e : IrError) (d : Data) → NotPrinted d → Found I1 e (malformed d) → Blames e d
blames_first (error.BadIr r at) d never f = (never, subst (λ x. IsFirst x at d) (sym f.0) f.1)
blames_first error.NoMemory d never f = tt

pub blames_second : (e : IrError) (d : Data) (printed : Json) → printed ≡ ir_value (ir_of d) → NotPrinted d → malformed d ≡ []
    → Found I2 e (unlike d (Some printed)) → Blames e d
blames_second (error.BadIr r at) d printed is never m f
    = (never, subst (λ x. IsFirst x at d) (sym f.0) (m, ap (λ v. first_place (unlike d (Some v))) (sym is) ∙ f.1))
blames_second error.NoMemory d printed is never m f = tt

pub blames_third : (e : IrError) (d : Data) (printed : Json) → printed ≡ ir_value (ir_of d) → NotPrinted d → malformed d ≡ []
    → unlike d (Some printed) ≡ [] → Found I3 e (out_of_range d) → Blames e d
blames_third (error.BadIr r at) d printed is never m n f
    = (never, subst (λ x. IsFirst x at d) (sym f.0) (m, ap (λ v. unlike d (Some v)) (sym is) ∙ n, f.1))
blames_third error.NoMemory d printed is never m n f = tt

pub blames_last : (d : Data) (printed : Json) (at : Place) → printed ≡ ir_value (ir_of d) → NotPrinted d → malformed d ≡ []
    → unlike d (Some printed) ≡ [] → out_of_range d ≡ [] → at ≡ []
    → Blames (error.BadIr I4 at) d
blames_last d printed at is never m n r none = (never, (m, ap (λ v. unlike d (Some v)) (sym is) ∙ n, r, none))

-- ---------------------------------------------------------------- what it spells

pub not_printed : (ir : Ir) (d : Data) → ir ≡ ir_of d → (IsPrinted ir d → ⊥) → NotPrinted d
not_printed ir d is never p = never (subst (λ x. IsPrinted x d) (sym is) p)

pub printed_as_spelled : (ir : Ir) (d : Data) → ir ≡ ir_of d → IsPrinted ir d → IsPrinted (ir_of d) d
printed_as_spelled ir d is p = subst (λ x. IsPrinted x d) is p

pub reads_printed : (ir : Ir) (d : Data) → ir ≡ ir_of d → IsPrinted (ir_of d) d → Reads (Ok ir) d
reads_printed ir d is p = (is, subst (λ x. IsPrinted x d) (sym is) p)

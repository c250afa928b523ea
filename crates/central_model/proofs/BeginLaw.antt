-- Errors that are left to the caller come to the same.
use Rattle.std.proofs.Common.{◌≡◌, ℕ, Option, Result, Ok, Err, refl}
use Rattle.asl_model.specs.Data.{Text, Json, Shape, and_then, prepared, parallel_inputs}
use Rattle.asl_model.specs.Machine.{Care}
use Rattle.asl_model.specs.Head.{HParallel, begins, or_caught}
use Rattle.asl_model.specs.Step.{Begun, Fans}
use Rattle.central_model.specs.Kinds.{begun_or_caught, parallel_fans}

caught_once : {X : Type 0} (name : Text) (raw : Json) (care : Care) (m : Result X Text) (f : X → Begun) → begun_or_caught name raw care (and_then m (λ x. Ok (f x))) ≡ or_caught name raw care m f
caught_once name raw care (Ok x) f = refl
caught_once name raw care (Err e) f = refl

caught_twice : {X Y : Type 0} (name : Text) (raw : Json) (care : Care) (m : Result X Text) (n : X → Result Y Text) (f : Y → Begun) → begun_or_caught name raw care (and_then m (λ x. and_then (n x) (λ y. Ok (f y)))) ≡ or_caught name raw care m (λ x. or_caught name raw care (n x) f)
caught_twice name raw care (Ok x) n f = caught_once name raw care (n x) f
caught_twice name raw care (Err e) n f = refl

pub parallel_begins : (name : Text) (shape : Shape) (n : ℕ) (after : Option Text) (care : Care) (raw : Json) → begun_or_caught name raw care (parallel_fans shape n raw) ≡ begins name (HParallel shape n after care) raw
parallel_begins name shape n after care raw = caught_twice name raw care (prepared shape raw) (parallel_inputs n) (λ inputs. Fans inputs)

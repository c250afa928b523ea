use Rattle.std.proofs.Common.{◌≡◌, drop, map}
use Rattle.unum_json.specs.Parsed.{view}
use Rattle.asl_read.specs.Objects.{has_any}
use Rattle.asl_read.proofs.objects.has_any.Given as goal

abbrev pub invariant-loop-key : goal.invariant-loop-key
invariant-loop-key l = has_any (map (λ k. k.now) l.keys) (view l.value) ≡ has_any (map (λ k. k.now) (drop l.key-index l.keys)) (view l.value)

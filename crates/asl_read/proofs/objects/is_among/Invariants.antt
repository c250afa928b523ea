use Rattle.std.proofs.Common.{◌≡◌, drop, map}
use Rattle.asl_read.specs.Names.{named}
use Rattle.asl_read.proofs.objects.is_among.Given as goal

abbrev pub invariant-loop-name : goal.invariant-loop-name
invariant-loop-name l = named (map (λ n. n.now) l.names) l.text ≡ named (map (λ n. n.now) (drop l.name-index l.names)) l.text

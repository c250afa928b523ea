use Rattle.std.proofs.Common.{◌≡◌, ◌≤◌, ◌++◌, drop, Some, IfSome, string_bytes}
use Rattle.unum_cli.specs.Central.{central_lines, central_text, left_by}
use Rattle.unum_cli.proofs.central.push_sessions.Given as goal

abbrev pub invariant-loop-k : goal.invariant-loop-k
invariant-loop-k l = record {
  lines : string_bytes l.out ++ central_lines l.bundle l.left l.k (drop l.k l.bundle.sessions) ≡ string_bytes l.fn.out ++ central_text l.bundle l.limit;
  rest : left_by l.bundle l.left l.k (drop l.k l.bundle.sessions) ≡ left_by l.bundle (Some l.limit) 0 l.bundle.sessions;
  limited : IfSome l.left (λ n. n ≤ 10000000);
}

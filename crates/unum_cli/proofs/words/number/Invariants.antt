use Rattle.std.proofs.Common.{◌≡◌, ◌<◌, ◌^◌, drop}
use Rattle.unum_cli.specs.Words.{number_from}
use Rattle.unum_cli.proofs.words.number.Given as goal

abbrev pub invariant-loop-digit : goal.invariant-loop-digit
invariant-loop-digit l = record {
  read : number_from 0 l.word ≡ number_from l.n (drop l.digit-index l.word);
  small : l.n < 10 ^ l.digit-index;
}

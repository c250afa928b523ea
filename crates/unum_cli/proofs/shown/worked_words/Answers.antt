use Rattle.unum_cli.proofs.Computed.{central_words, limit_bounds, limit_digits, make_words, run_words}
use Rattle.unum_cli.proofs.shown.worked_words.Goals as goal

pub returns : goal.returns
returns c = record { bounds = limit_bounds; digits = limit_digits; central = central_words; make = make_words; run = run_words }

-- The examples of words by computation.
use Rattle.std.proofs.Common.{refl}
use Rattle.unum_cli.specs.Words.{number_from, number_within, command, run_command}
use Rattle.unum_cli.specs.Shown.{CentralWords, LimitBounds, LimitDigits, MakeWords, RunWords}

pub limit_bounds : LimitBounds
unfolding command number_within number_from
limit_bounds = (refl, refl, refl, refl, refl, refl, refl)

pub limit_digits : LimitDigits
unfolding command number_within number_from
limit_digits = (refl, refl, refl, refl, refl)

pub central_words : CentralWords
unfolding command number_within number_from
central_words = (refl, refl, refl, refl)

pub make_words : MakeWords
unfolding command number_within number_from
make_words = (refl, refl, refl, refl, refl, refl, refl)

pub run_words : RunWords
unfolding run_command number_within number_from
run_words = (refl, refl, refl, refl, refl, refl, refl, refl)

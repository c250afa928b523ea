use Rattle.std.proofs.Common.{refl, sym, ap, ◌∙◌}
use Rattle.fanin_bitmap.proofs.Flagged.{flags_in-none, set_flags-no_flags}
use Rattle.fanin_bitmap.specs.Words.{set_flags}
use Rattle.fanin_bitmap.proofs.bitmap.Bitmap.new.Goals as goal

pub invariant_of-result : goal.invariant_of-result
invariant_of-result c = record {
  words_len = refl;
  within = c.requires;
  set_is = sym (ap set_flags (flags_in-none 16 c.args.count) ∙ set_flags-no_flags c.args.count);
}

pub returns : goal.returns
returns c = flags_in-none 16 c.args.count

use Rattle.ir_text.proofs.Back.{ir_back, accepted}
use Rattle.ir_text.proofs.laws.flat_forms_read_back.Goals as goal

pub returns : goal.returns
returns c = record { spelled = ir_back; accepted = accepted }

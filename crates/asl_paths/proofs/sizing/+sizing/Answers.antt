use Rattle.std.proofs.Common.{ap, sym, ◌∙◌, Some}
use Rattle.std.specs.Option.{option_map}
use Rattle.asl_paths.specs.Filling.{fill_part, fill_parts, fill_fields, item_of}
use Rattle.asl_paths.specs.Sizes.{value_size}
use Rattle.asl_paths.proofs.FillSizes.{fill-Array, fill-Object, fields_around, items_around}
use Rattle.asl_paths.proofs.sizing.+sizing.Goals as goal

pub of_part-returns-in_ok-of_fields-in-Object : goal.of_part-returns-in_ok-of_fields-in-Object
of_part-returns-in_ok-of_fields-in-Object t c =
    let value = c.args.value.now in
    let item = item_of c.args.item in
    ap Some c.around-in-Object.ensures ∙ fields_around (fill_fields value item c.in-Object.fields) c.in_ok-of_fields-in-Object.field-0 c.in_ok-of_fields-in-Object.ensures
    ∙ ap (option_map value_size) (sym (fill-Object value item c.in-Object.fields)) ∙ ap (λ p. option_map value_size (fill_part value item p)) (sym c.in-Object.is)

pub of_part-returns-in_ok-of_parts-in-Array : goal.of_part-returns-in_ok-of_parts-in-Array
of_part-returns-in_ok-of_parts-in-Array t c =
    let value = c.args.value.now in
    let item = item_of c.args.item in
    ap Some c.around.ensures ∙ items_around (fill_parts value item c.in-Array.parts) c.in_ok-of_parts-in-Array.field-0 c.in_ok-of_parts-in-Array.ensures
    ∙ ap (option_map value_size) (sym (fill-Array value item c.in-Array.parts)) ∙ ap (λ p. option_map value_size (fill_part value item p)) (sym c.in-Array.is)

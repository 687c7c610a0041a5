use Rattle.std.specs.List.{list_any}
use Rattle.std.proofs.lemmas.Bool.{cond-false}
use Rattle.field_model.specs.Update.{raw_items, is_bext}
use Rattle.field_model.proofs.Raised.{updated_other}
use Rattle.field_model.proofs.other_fields_stay.Goals as goal

pub returns-clause-others : goal.returns-clause-others
returns-clause-others c = λ f e name other none. updated_other (raw_items f e) f name other none

pub returns-clause-bext : goal.returns-clause-bext
returns-clause-bext c = λ f e field none. cond-false (list_any (λ i. is_bext i.name) (raw_items f e)) _ _ none

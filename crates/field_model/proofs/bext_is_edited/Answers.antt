use Rattle.field_model.specs.Update.{raw_items}
use Rattle.field_model.proofs.Fits.{raw_items_fit}
use Rattle.field_model.proofs.Raised.{bext_edited, bext_made}
use Rattle.field_model.proofs.bext_is_edited.Goals as goal

pub returns-clause-there : goal.returns-clause-there
returns-clause-there c = λ f e body field long are. bext_edited (raw_items f e) f body field long (raw_items_fit f e) are

pub returns-clause-new : goal.returns-clause-new
returns-clause-new c = λ f e field absent names. bext_made (raw_items f e) f field (raw_items_fit f e) names absent

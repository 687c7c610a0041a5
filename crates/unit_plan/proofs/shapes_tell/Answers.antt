use Rattle.unit_plan.proofs.Outcomes.{cells_told}
use Rattle.unit_plan.proofs.shapes_tell.Goals as goal

pub returns : goal.returns
returns c = λ g ends at xs count. cells_told g ends count at xs

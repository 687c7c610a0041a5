use Rattle.std.proofs.Common.{◌≡◌, ◌∙◌, ◌*◌, ◌/◌, ℕ, List, length, take, drop, sym, ap, subst, arith}
use Rattle.part_tree.specs.Tables.{width}
use Rattle.relocator.specs.Pages.{count}
use Rattle.table_misfits.proofs.Misfits.{count_small, first_stop, named_none, page_misfits}
use Rattle.table_misfits.proofs.misfit.misfit_in_page.Goals as goal

pub relocate_page-requires-clause-page : goal.relocate_page-requires-clause-page
relocate_page-requires-clause-page g c =
    let form = c.args.form.now in
    let whole = subst (λ (n : ℕ). n ≡ width form * (n / width form)) (sym c.read_at.auto.into) c.requires.whole in
    record { whole = whole; numbered = omega (arith, count_small form (length c.read_at.new.into) whole, c.read_at.auto.into, c.requires.few) }

pub returns-in-Err-clause-misfit : goal.returns-in-Err-clause-misfit
returns-in-Err-clause-misfit g c b held =
    let ms = c.args.moves.now in
    let form = c.args.form.now in
    let page = c.read_at.new.into in
    let is = c.in_ok-read_at.ensures.bytes held.tells ∙ ap (λ (x : List ℕ). take (length c.args.page.now) (drop c.args.at x)) held.bytes in
    let stops = c.in-Err.ensures in
    sym (first_stop ms form (count form page) stops.row page c.in-Err.overflow.place stops.inside stops.named stops.place) ∙ page_misfits ms form b c.args.at page c.args.page.now is c.read_at.auto.into c.requires.whole

pub returns-in-Ok-clause-misfit : goal.returns-in-Ok-clause-misfit
returns-in-Ok-clause-misfit g c b held =
    let ms = c.args.moves.now in
    let form = c.args.form.now in
    let page = c.read_at.new.into in
    let is = c.in_ok-read_at.ensures.bytes held.tells ∙ ap (λ (x : List ℕ). take (length c.args.page.now) (drop c.args.at x)) held.bytes in
    sym (named_none ms form (count form page) page c.in-Ok.ensures.0) ∙ page_misfits ms form b c.args.at page c.args.page.now is c.read_at.auto.into c.requires.whole

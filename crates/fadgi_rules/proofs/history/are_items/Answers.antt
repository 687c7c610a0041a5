use Rattle.std.proofs.Common.{◌∙◌, sym, refl, arith}
use Rattle.std.proofs.lemmas.List.{length-set}
use Rattle.fadgi_rules.proofs.Pieces.{items_first, items_stale, items_end, items_next, place_after}
use Rattle.fadgi_rules.proofs.history.are_items.Goals as goal

pub items-init : goal.items-init
items-init c = record { inside = omega arith; many = refl; left = items_first c.args.line.now }

pub returns-then-not-is_fresh : goal.returns-then-not-is_fresh
returns-then-not-is_fresh c =
    sym (items_stale c.items.seen c.args.line.now c.items.at c.place_of-end.result c.place_of-end.ensures.place c.place_of-end.ensures.inside (sym c.is_fresh.ensures.fresh ∙ c.if-not-is_fresh.true)) ∙ c.items.invariant.left

pub returns-then-end-rest : goal.returns-then-end-rest
returns-then-end-rest c =
    sym (items_end c.items.seen c.args.line.now c.items.at c.place_of-end.result c.place_of-end.ensures.place c.if-end-rest.true (sym c.is_fresh.ensures.fresh ∙ c.if-not-is_fresh.false)) ∙ c.items.invariant.left

pub items-preserved : goal.items-preserved
items-preserved c =
    let next = items_next c.items.seen c.args.line.now c.items.at c.place_of-end.result c.place_of-end.ensures.place c.place_of-end.ensures.inside c.if-end-rest.false (sym c.is_fresh.ensures.fresh ∙ c.if-not-is_fresh.false) in
    record {
      inside = place_after c.args.line.now c.items.at c.place_of-end.result c.items.invariant.inside c.place_of-end.ensures.inside c.if-end-rest.false;
      many = length-set _ _ _ ∙ c.items.invariant.many;
      left = sym next ∙ c.items.invariant.left;
    }

use Rattle.std.proofs.Common.{rules, ◌≡◌, ◌≤◌, ◌∙◌, ap, arith, length, List}
use Rattle.std.specs.List.{insert, position_or_len}
use Rattle.info_list.specs.declared.InfoItem.{InfoItem}
use Rattle.info_list.proofs.Changed.{named, others, first_within, none_went, put_done}
use Rattle.info_list.proofs.edit.put_item.Goals as goal
use Rattle.info_list.proofs.edit.put_item.Goals.{in-Ok, in-Err}

pub insert-requires : goal.insert-requires
insert-requires c =
    let place : c.first_named-k.result ≡ position_or_len (named c.args.item.id.0) c.args.items.now.items = search rules in
    let left : length c.drop_named.new.items.items ≡ length (others c.args.item.id.0 c.args.items.now.items) = ap (λ (xs : List InfoItem). length xs) c.drop_named.ensures.others in
    let within : c.first_named-k.result ≤ length c.drop_named.new.items.items = omega (arith, place, left, first_within c.args.item.id.0 c.args.items.now.items) in
    grind (arith, within)

pub returns-clause-put : goal.returns-clause-put
returns-clause-put c =
    let place : c.first_named-k.result ≡ position_or_len (named c.args.item.id.0) c.args.items.now.items = search rules in
    elim c.match-insert.branch [
      | in-Ok w ↦
          let put : c.insert.new.self.items ≡ insert c.drop_named.new.items.items c.first_named-k.result c.args.item = w.in-Ok.ensures.items in
          rw w.result-is (put_done c.args.item c.args.items.now.items c.drop_named.new.items.items c.insert.new.self.items c.first_named-k.result c.drop_named.ensures.others place put)
      | in-Err w ↦ rw w.result-is tt
    ]

pub returns-clause-stays : goal.returns-clause-stays
returns-clause-stays c =
    elim c.match-insert.branch [
      | in-Ok w ↦ rw w.result-is tt
      | in-Err w ↦
          let stays : c.insert.new.self.items ≡ c.drop_named.new.items.items = w.in-Err.ensures.items in
          let many : length c.args.items.now.items ≤ length c.drop_named.new.items.items =
          omega (arith, c.args.items.now.ok.0, c.args.items.now.ok.1, c.drop_named.new.items.ok.0, w.in-Err.ensures.full, c.drop_named.ensures.room)
          in
          rw w.result-is (stays ∙ none_went c.args.item.id.0 c.args.items.now.items c.drop_named.new.items.items c.drop_named.ensures.others many)
    ]

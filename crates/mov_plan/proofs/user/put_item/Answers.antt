use Rattle.std.proofs.Common.{rules, ◌≡◌, ◌≤◌, ap, arith, length, List}
use Rattle.std.specs.List.{insert, position_or_len}
use Rattle.mov_plan.specs.declared.user.UserItem.{UserItem}
use Rattle.mov_plan.proofs.Changed.{named, others, first_within, put_done}
use Rattle.mov_plan.proofs.user.put_item.Goals as goal
use Rattle.mov_plan.proofs.user.put_item.Goals.{in-Ok, in-Err}

pub insert-requires : goal.insert-requires
insert-requires c =
    let place : c.first_named-k.result ≡ position_or_len (named c.args.item.kind.0) c.args.items.now.items = search rules in
    let left : length c.drop_named.new.items.items ≡ length (others c.args.item.kind.0 c.args.items.now.items) = ap (λ (xs : List UserItem). length xs) c.drop_named.ensures in
    let within : c.first_named-k.result ≤ length c.drop_named.new.items.items = omega (arith, place, left, first_within c.args.item.kind.0 c.args.items.now.items) in
    grind (arith, within)

pub returns : goal.returns
returns c =
    let place : c.first_named-k.result ≡ position_or_len (named c.args.item.kind.0) c.args.items.now.items = search rules in
    elim c.match-insert.branch [
      | in-Ok w ↦
          let put : c.insert.new.self.items ≡ insert c.drop_named.new.items.items c.first_named-k.result c.args.item = w.in-Ok.ensures.items in
          rw w.result-is (put_done c.args.item.kind.0 c.args.text.now c.args.item c.args.items.now.items c.drop_named.new.items.items c.insert.new.self.items c.first_named-k.result c.requires c.drop_named.ensures place put)
      | in-Err w ↦ rw w.result-is tt
    ]

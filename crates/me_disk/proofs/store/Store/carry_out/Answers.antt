use Rattle.std.proofs.Common.{◌≡◌, ◌∙◌, ◌++◌, ◌+◌, ◌≤◌, ◌∷◌, [], ℕ, length, ap, subst, sym, arith}
use Rattle.std.proofs.lemmas.Grind.{common_steps}
use Rattle.std.specs.Vec.{vec_capacity}
use Rattle.std.specs.declared.vec.Vec.{Vec}
use Rattle.std.specs.declared.alloc.Global.{Global}
use Rattle.me_disk.specs.declared.store.Held.{Held}
use Rattle.me_disk.specs.declared.store.Logged.{Logged}
use Rattle.me_disk.specs.Calls.{effect}
use Rattle.me_disk.specs.Limits.{Limits, calls_left, bytes_left}
use Rattle.me_disk.specs.Store.{call_of, slots_in, HoldsSlots, IsSoundFor}
use Rattle.me_disk.proofs.CarriedOut.{noted_next, noted_sound, marked_later, marked_now}
use Rattle.me_disk.proofs.Sound.{held_copied}
use Rattle.me_disk.proofs.store.Store.carry_out.Goals as goal

pub returns-in-true-clause-next : goal.returns-in-true-clause-next
returns-in-true-clause-next c = noted_next c.args.call c.args.bytes.now c.args.self.now _ (record {
  first = c.apply.ensures.rest.first;
  first_journal = c.apply.ensures.rest.first_journal;
  log = c.note.ensures.items ∙ ap (λ (v : Vec Logged Global). v.items ++ c.args.call ∷ []) c.apply.ensures.rest.log;
  pool = c.put.ensures.items ∙ ap (λ (v : Vec ℕ Global). v.items ++ c.args.bytes.now) c.apply.ensures.rest.pool;
  log_room = subst (λ (v : Vec Logged Global). vec_capacity v ≤ vec_capacity c.note.new.log) c.apply.ensures.rest.log c.note.ensures.room;
  pool_room = subst (λ (v : Vec ℕ Global). vec_capacity v ≤ vec_capacity c.put.new.to) c.apply.ensures.rest.pool c.put.ensures.room;
  limit = c.apply.ensures.rest.limit;
  state = c.apply.ensures.rest.state;
  limits = c.apply.ensures.rest.limits;
}) c.requires.room.log.total c.requires.sized

pub returns-in-true-clause-sound : goal.returns-in-true-clause-sound
returns-in-true-clause-sound c =
    let calls : c.len.result ≡ length c.note.new.log.items = grind (arith, common_steps, c.len.ensures) in
    let in_pool : c.len-in-true.result ≡ length c.put.new.to.items = grind (arith, common_steps, c.len-in-true.ensures) in
    let before : IsSoundFor (calls_left c.apply.new.self.limits + 1) (bytes_left c.apply.new.self.limits + length c.args.bytes.now) c.args.self.now
    = subst (λ (l : Limits). IsSoundFor (calls_left l + 1) (bytes_left l + length c.args.bytes.now) c.args.self.now) (sym c.apply.ensures.rest.limits) c.requires.room in
    let slots : HoldsSlots c.apply.new.self (effect (call_of c.args.call c.args.bytes.now) (slots_in c.args.self.now)) (bytes_left c.apply.new.self.limits)
    = subst (λ (l : Limits). HoldsSlots c.apply.new.self (effect (call_of c.args.call c.args.bytes.now) (slots_in c.args.self.now)) (bytes_left l)) (sym c.apply.ensures.rest.limits) c.apply.ensures.slots in
    noted_sound c.args.call c.args.bytes.now c.args.self.now _ _ _ (record {
      first = c.apply.ensures.rest.first;
      first_journal = c.apply.ensures.rest.first_journal;
      log = c.note.ensures.items ∙ ap (λ (v : Vec Logged Global). v.items ++ c.args.call ∷ []) c.apply.ensures.rest.log;
      pool = c.put.ensures.items ∙ ap (λ (v : Vec ℕ Global). v.items ++ c.args.bytes.now) c.apply.ensures.rest.pool;
      log_room = subst (λ (v : Vec Logged Global). vec_capacity v ≤ vec_capacity c.note.new.log) c.apply.ensures.rest.log c.note.ensures.room;
      pool_room = subst (λ (v : Vec ℕ Global). vec_capacity v ≤ vec_capacity c.put.new.to) c.apply.ensures.rest.pool c.put.ensures.room;
      limit = c.apply.ensures.rest.limit;
      state = c.apply.ensures.rest.state;
      limits = c.apply.ensures.rest.limits;
    }) c.requires.sized c.requires.inside before
    (record { main = slots.main; journal = slots.journal; work = slots.work })
    (marked_now c.args.call c.args.bytes.now _ _ _ (bytes_left c.apply.new.self.limits) (sym c.in-true.ensures)
    (held_copied c.apply.new.self.main c.copy_into.new.to _ _ _ slots.main c.copy_into.ensures.held c.copy_into.ensures.items (omega (arith, c.requires.room.log.kept.within, c.copy_into.ensures.room, ap (λ (h : Held). vec_capacity h.bytes) c.apply.ensures.rest.kept, c.apply.ensures.rest.limit)))
    calls
    in_pool)

pub returns-in-false-clause-next : goal.returns-in-false-clause-next
returns-in-false-clause-next c = noted_next c.args.call c.args.bytes.now c.args.self.now _ (record {
  first = c.apply.ensures.rest.first;
  first_journal = c.apply.ensures.rest.first_journal;
  log = c.note.ensures.items ∙ ap (λ (v : Vec Logged Global). v.items ++ c.args.call ∷ []) c.apply.ensures.rest.log;
  pool = c.put.ensures.items ∙ ap (λ (v : Vec ℕ Global). v.items ++ c.args.bytes.now) c.apply.ensures.rest.pool;
  log_room = subst (λ (v : Vec Logged Global). vec_capacity v ≤ vec_capacity c.note.new.log) c.apply.ensures.rest.log c.note.ensures.room;
  pool_room = subst (λ (v : Vec ℕ Global). vec_capacity v ≤ vec_capacity c.put.new.to) c.apply.ensures.rest.pool c.put.ensures.room;
  limit = c.apply.ensures.rest.limit;
  state = c.apply.ensures.rest.state;
  limits = c.apply.ensures.rest.limits;
}) c.requires.room.log.total c.requires.sized

pub returns-in-false-clause-sound : goal.returns-in-false-clause-sound
returns-in-false-clause-sound c =
    let before : IsSoundFor (calls_left c.apply.new.self.limits + 1) (bytes_left c.apply.new.self.limits + length c.args.bytes.now) c.args.self.now
    = subst (λ (l : Limits). IsSoundFor (calls_left l + 1) (bytes_left l + length c.args.bytes.now) c.args.self.now) (sym c.apply.ensures.rest.limits) c.requires.room in
    let slots : HoldsSlots c.apply.new.self (effect (call_of c.args.call c.args.bytes.now) (slots_in c.args.self.now)) (bytes_left c.apply.new.self.limits)
    = subst (λ (l : Limits). HoldsSlots c.apply.new.self (effect (call_of c.args.call c.args.bytes.now) (slots_in c.args.self.now)) (bytes_left l)) (sym c.apply.ensures.rest.limits) c.apply.ensures.slots in
    noted_sound c.args.call c.args.bytes.now c.args.self.now _ _ _ (record {
      first = c.apply.ensures.rest.first;
      first_journal = c.apply.ensures.rest.first_journal;
      log = c.note.ensures.items ∙ ap (λ (v : Vec Logged Global). v.items ++ c.args.call ∷ []) c.apply.ensures.rest.log;
      pool = c.put.ensures.items ∙ ap (λ (v : Vec ℕ Global). v.items ++ c.args.bytes.now) c.apply.ensures.rest.pool;
      log_room = subst (λ (v : Vec Logged Global). vec_capacity v ≤ vec_capacity c.note.new.log) c.apply.ensures.rest.log c.note.ensures.room;
      pool_room = subst (λ (v : Vec ℕ Global). vec_capacity v ≤ vec_capacity c.put.new.to) c.apply.ensures.rest.pool c.put.ensures.room;
      limit = c.apply.ensures.rest.limit;
      state = c.apply.ensures.rest.state;
      limits = c.apply.ensures.rest.limits;
    }) c.requires.sized c.requires.inside before
    (record { main = slots.main; journal = slots.journal; work = slots.work })
    (marked_later c.args.call c.args.bytes.now c.args.self.now _ (calls_left c.apply.new.self.limits) (bytes_left c.apply.new.self.limits) (record {
      first = c.apply.ensures.rest.first;
      first_journal = c.apply.ensures.rest.first_journal;
      log = c.note.ensures.items ∙ ap (λ (v : Vec Logged Global). v.items ++ c.args.call ∷ []) c.apply.ensures.rest.log;
      pool = c.put.ensures.items ∙ ap (λ (v : Vec ℕ Global). v.items ++ c.args.bytes.now) c.apply.ensures.rest.pool;
      log_room = subst (λ (v : Vec Logged Global). vec_capacity v ≤ vec_capacity c.note.new.log) c.apply.ensures.rest.log c.note.ensures.room;
      pool_room = subst (λ (v : Vec ℕ Global). vec_capacity v ≤ vec_capacity c.put.new.to) c.apply.ensures.rest.pool c.put.ensures.room;
      limit = c.apply.ensures.rest.limit;
      state = c.apply.ensures.rest.state;
      limits = c.apply.ensures.rest.limits;
    }) c.requires.sized (sym c.in-false.ensures) before.log c.apply.ensures.rest.kept c.apply.ensures.rest.mark)

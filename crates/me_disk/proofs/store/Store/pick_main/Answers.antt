use Rattle.std.proofs.Common.{◌≡◌, ◌∙◌, ◌+◌, ◌-◌, ◌≤◌, ℕ, List, length, take, drop, ap, subst, sym, arith}
use Rattle.me_disk.specs.declared.store.Logged.{Logged}
use Rattle.me_disk.specs.declared.memory.Pick.{Pick}
use Rattle.me_disk.specs.Limits.{bytes_left}
use Rattle.me_disk.specs.Reopened.{replay, picked}
use Rattle.me_disk.specs.Store.{held_of, calls_of, total, memory_of, IsHeld}
use Rattle.me_disk.proofs.Since.{since_sized, redone}
use Rattle.me_disk.proofs.Sound.{held_moved}
use Rattle.me_disk.proofs.store.Store.pick_main.Goals as goal

pub redo_all-requires-clause-sized : goal.redo_all-requires-clause-sized
redo_all-requires-clause-sized c =
    let k = c.args.self.now.mark.calls in
    let b = c.args.self.now.mark.bytes in
    ap (λ (l : List Logged). total (take (length l - k) (drop k l))) c.deref.ensures.value
    ∙ since_sized c.args.self.now.log.items c.args.self.now.pool.items k b c.requires.log.total c.requires.log.mark_calls c.requires.log.mark_bytes
    ∙ sym (ap (λ (l : List ℕ). length (take (length l - b) (drop b l))) c.deref-in-Torn.ensures.value)

pub returns-in-Torn-clause-main : goal.returns-in-Torn-clause-main
returns-in-Torn-clause-main c =
    let k = c.args.self.now.mark.calls in
    let b = c.args.self.now.mark.bytes in
    let log = c.args.self.now.log.items in
    let pool = c.args.self.now.pool.items in
    let start = (memory_of c.args.self.now).start in
    let done = (memory_of c.args.self.now).done in
    let limit = c.args.self.now.limit in
    let left = bytes_left c.args.self.now.limits in
    let cut_log = λ (l : List Logged). take (length l - k) (drop k l) in
    let cut_pool = λ (l : List ℕ). take (length l - b) (drop b l) in
    let main : held_of c.redo_all.new.main ≡ replay c.in-Torn.first (calls_of (cut_log log) (cut_pool pool)) (held_of c.args.self.now.kept)
    = c.redo_all.ensures.main ∙ (λ i. replay c.in-Torn.first (calls_of (cut_log (c.deref.ensures.value i)) (cut_pool (c.deref-in-Torn.ensures.value i))) (held_of c.args.self.now.kept)) in
    let longer : length c.redo_all.new.main.bytes.items ≤ length c.args.self.now.kept.bytes.items + length (cut_pool pool)
    = omega (arith, c.redo_all.ensures.longer, ap (λ (l : List ℕ). length (cut_pool l)) c.deref-in-Torn.ensures.value) in
    let held = redone c.in-Torn.first log pool k b c.args.self.now.kept c.redo_all.new.main _ limit left c.requires.log.total c.requires.log.mark_calls c.requires.log.mark_bytes c.requires.log.kept main c.redo_all.ensures.held longer c.redo_all.ensures.room in
    subst (λ (p : Pick). IsHeld c.swap-in-Torn.new.x (picked p start done).main limit left) (sym c.in-Torn.is)
    (held_moved c.redo_all.new.main c.swap-in-Torn.new.x _ limit left c.swap-in-Torn.ensures.x_after held)

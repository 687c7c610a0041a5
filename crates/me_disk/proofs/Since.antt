-- The calls since the last sync, by the log and the marks.
use Rattle.std.proofs.Common.{◌≡◌, ℕ, zero, suc, ◌+◌, ◌-◌, ◌≤◌, List, [], ◌∷◌, ◌++◌, length, take, drop, refl, sym, ◌∙◌, ap, arith, length-append, length-take, length-drop}
use Rattle.std.specs.Prelude.{reverse}
use Rattle.std.specs.Vec.{vec_capacity}
use Rattle.std.specs.declared.option.Option.{Option}
use Rattle.std.proofs.lemmas.List.{drop-drop, reverse-append, reverse-reverse, length-reverse, drop-append-le, drop_all, take_rest}
use Rattle.me_disk.specs.declared.store.Held.{Held}
use Rattle.me_disk.specs.declared.store.Logged.{Logged}
use Rattle.me_disk.specs.Disk.{bytes_of}
use Rattle.me_disk.specs.Calls.{Call}
use Rattle.me_disk.specs.Reopened.{unsynced, synced, replay}
use Rattle.me_disk.specs.Store.{held_of, size_of, total, pieces, calls_of, IsHeld}
use Rattle.me_disk.proofs.CarriedOut.{piece_size}
use Rattle.me_disk.proofs.Reopened.{split_calls}

calls_of-length : (log : List Logged) (pool : List ℕ) → length (calls_of log pool) ≡ length log
calls_of-length [] pool = refl
calls_of-length (e ∷ es) pool = omega (arith, calls_of-length es (drop (size_of e) pool))

calls_of-drop : (k : ℕ) (log : List Logged) (pool : List ℕ) → drop k (calls_of log pool) ≡ calls_of (drop k log) (drop (total (take k log)) pool)
calls_of-drop zero log pool = refl
calls_of-drop (suc k) [] pool = refl
calls_of-drop (suc k) (e ∷ es) pool =
    calls_of-drop k es (drop (size_of e) pool) ∙ ap (λ (l : List ℕ). calls_of (drop k es) l) (drop-drop (total (take k es)) (size_of e) pool)

total-split : (k : ℕ) (log : List Logged) → total (take k log) + total (drop k log) ≡ total log
total-split zero log = omega arith
total-split (suc k) [] = refl
total-split (suc k) (e ∷ es) = omega (arith, total-split k es)

pieces_of : (log : List Logged) (pool : List ℕ) → total log ≤ length pool → pieces (calls_of log pool) ≡ total log
pieces_of [] pool h = refl
pieces_of (e ∷ es) pool h =
    let size : length (take (size_of e) pool) ≡ size_of e = omega (arith, length-take (size_of e) pool) in
    omega (arith, piece_size e (take (size_of e) pool) size, size, pieces_of es (drop (size_of e) pool) (omega (arith, length-drop (size_of e) pool)))

pieces-append : (cs ds : List Call) → pieces (cs ++ ds) ≡ pieces cs + pieces ds
pieces-append [] ds = omega arith
pieces-append (c ∷ cs) ds = omega (arith, pieces-append cs ds)

pieces-reverse : (cs : List Call) → pieces (reverse cs) ≡ pieces cs
pieces-reverse [] = refl
pieces-reverse (c ∷ cs) = omega (arith, ap pieces (reverse-append (c ∷ []) cs), pieces-append (reverse cs) (c ∷ []), pieces-reverse cs)

-- the end of a list, by the length of its front
back_of : (front back : List Call) (k : ℕ) → length front ≡ k → drop k (front ++ back) ≡ back
back_of front back k e =
    let le : k ≤ length front = omega arith in
    drop-append-le k front back le ∙ ap (λ (l : List Call). l ++ back) (drop_all k front (omega arith))

unsynced_are : (log : List Logged) (pool : List ℕ) (k : ℕ) → length (unsynced (reverse (calls_of log pool))) + k ≡ length log
    → reverse (unsynced (reverse (calls_of log pool))) ≡ calls_of (drop k log) (drop (total (take k log)) pool)
unsynced_are log pool k h =
    let done = reverse (calls_of log pool) in
    let whole : reverse (synced done) ++ reverse (unsynced done) ≡ calls_of log pool
    = sym (reverse-append (unsynced done) (synced done)) ∙ ap (λ (l : List Call). reverse l) (split_calls done) ∙ reverse-reverse (calls_of log pool) in
    let front : length (reverse (synced done)) ≡ k
    = omega (arith, h, ap length whole, length-append (reverse (synced done)) (reverse (unsynced done)), length-reverse (unsynced done), calls_of-length log pool) in
    sym (back_of (reverse (synced done)) (reverse (unsynced done)) k front) ∙ ap (λ (l : List Call). drop k l) whole ∙ calls_of-drop k log pool

mark_is : (log : List Logged) (pool : List ℕ) (k b : ℕ) → total log ≡ length pool → length (unsynced (reverse (calls_of log pool))) + k ≡ length log
    → pieces (unsynced (reverse (calls_of log pool))) + b ≡ length pool → b ≡ total (take k log)
mark_is log pool k b t h m =
    let fits : total (drop k log) ≤ length (drop (total (take k log)) pool) = omega (arith, length-drop (total (take k log)) pool, total-split k log, t) in
    omega (arith, m, t, total-split k log, pieces-reverse (unsynced (reverse (calls_of log pool))), ap pieces (unsynced_are log pool k h), pieces_of (drop k log) (drop (total (take k log)) pool) fits)

-- the calls behind the marks are those since the last sync
pub since_mark : (log : List Logged) (pool : List ℕ) (k b : ℕ) → total log ≡ length pool → length (unsynced (reverse (calls_of log pool))) + k ≡ length log
    → pieces (unsynced (reverse (calls_of log pool))) + b ≡ length pool → calls_of (drop k log) (drop b pool) ≡ reverse (unsynced (reverse (calls_of log pool)))
since_mark log pool k b t h m = ap (λ (n : ℕ). calls_of (drop k log) (drop n pool)) (mark_is log pool k b t h m) ∙ sym (unsynced_are log pool k h)

-- and their pieces stand behind the other mark
pub since_sized : (log : List Logged) (pool : List ℕ) (k b : ℕ) → total log ≡ length pool → length (unsynced (reverse (calls_of log pool))) + k ≡ length log
    → pieces (unsynced (reverse (calls_of log pool))) + b ≡ length pool
    → total (take (length log - k) (drop k log)) ≡ length (take (length pool - b) (drop b pool))
since_sized log pool k b t h m =
    ap total (take_rest log k) ∙ omega (arith, mark_is log pool k b t h m, total-split k log, t, length-drop b pool) ∙ sym (ap length (take_rest pool b))

-- what a crash is said to have left of `Main`
pub redone : (first : ℕ) (log : List Logged) (pool : List ℕ) (k b : ℕ) (kept new : Held) (m : Option (List ℕ)) (limit left : ℕ)
    → total log ≡ length pool → length (unsynced (reverse (calls_of log pool))) + k ≡ length log → pieces (unsynced (reverse (calls_of log pool))) + b ≡ length pool
    → IsHeld kept m limit (left + pieces (unsynced (reverse (calls_of log pool))))
    → held_of new ≡ replay first (calls_of (take (length log - k) (drop k log)) (take (length pool - b) (drop b pool))) (held_of kept)
    → bytes_of (held_of new) ≡ new.bytes.items → length new.bytes.items ≤ length kept.bytes.items + length (take (length pool - b) (drop b pool))
    → vec_capacity kept.bytes ≤ vec_capacity new.bytes
    → IsHeld new (replay first (reverse (unsynced (reverse (calls_of log pool)))) m) limit left
redone first log pool k b kept new m limit left t h p held is bytes longer room =
    let calls : calls_of (take (length log - k) (drop k log)) (take (length pool - b) (drop b pool)) ≡ reverse (unsynced (reverse (calls_of log pool)))
    = (λ i. calls_of (take_rest log k i) (take_rest pool b i)) ∙ since_mark log pool k b t h p in
    let main : held_of new ≡ replay first (reverse (unsynced (reverse (calls_of log pool)))) m
    = is ∙ (λ i. replay first (calls i) (held.is i)) in
    record {
      is = main;
      bytes = ap bytes_of (sym main) ∙ bytes;
      room = omega (arith, longer, held.room, ap length (take_rest pool b), length-drop b pool, p);
      within = omega (arith, held.within, room);
    }

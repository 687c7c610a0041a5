-- The parts of a depot in memory after a call that was done and logged.
use Rattle.std.proofs.Common.{◌≡◌, ℕ, ◌+◌, ◌≤◌, List, [], ◌∷◌, ◌++◌, length, true, false, refl, sym, ◌∙◌, ap, subst, arith, length-append}
use Rattle.std.specs.Prelude.{unwrap_or}
use Rattle.std.specs.Vec.{vec_capacity}
use Rattle.std.specs.declared.option.Option.{Option}
use Rattle.me_disk.specs.declared.store.Held.{Held}
use Rattle.me_disk.specs.declared.store.Store.{Store}
use Rattle.me_disk.specs.declared.store.Logged.{Logged}
use Rattle.me_disk.specs.declared.store.Logged.TheVariants.{Begin, Append, Sync, Drop, ToMain, ToJournal, Write, Cut, SyncFile, DropIt}
use Rattle.me_disk.specs.Disk.{Image}
use Rattle.me_disk.specs.Calls.{Call, effect, piece}
use Rattle.me_disk.specs.Memory.{slots_of, piece_of}
use Rattle.me_disk.specs.Reopened.{unsynced, synced, kept_main}
use Rattle.me_disk.specs.Store.{held_of, size_of, call_of, is_sync, total, pieces, memory_of, slots_in, IsInside, WereInside, IsHeld, HoldsSlots, IsLogged, IsSoundFor, IsNext}
use Rattle.me_disk.proofs.Log.{next_done, total-push}
use Rattle.me_disk.proofs.Sound.{held_less}

pub piece_size : (call : Logged) (bytes : List ℕ) → length bytes ≡ size_of call → piece (call_of call bytes) ≡ length bytes
piece_size Begin bytes s = sym s
piece_size (Append n) bytes s = refl
piece_size Sync bytes s = sym s
piece_size Drop bytes s = sym s
piece_size ToMain bytes s = sym s
piece_size ToJournal bytes s = sym s
piece_size (Write at n) bytes s = refl
piece_size (Cut n) bytes s = sym s
piece_size SyncFile bytes s = sym s
piece_size DropIt bytes s = sym s

pub piece_asked : (call : Logged) (bytes : List ℕ) → length bytes ≡ size_of call → unwrap_or (piece_of (call_of call bytes)) 0 ≡ length bytes
piece_asked Begin bytes s = sym s
piece_asked (Append n) bytes s = refl
piece_asked Sync bytes s = sym s
piece_asked Drop bytes s = sym s
piece_asked ToMain bytes s = sym s
piece_asked ToJournal bytes s = sym s
piece_asked (Write at n) bytes s = refl
piece_asked (Cut n) bytes s = sym s
piece_asked SyncFile bytes s = sym s
piece_asked DropIt bytes s = sym s

-- ---- the calls since the last sync

unsynced_more : (call : Logged) (b : List ℕ) (done : List Call) → is_sync call ≡ false → unsynced (call_of call b ∷ done) ≡ call_of call b ∷ unsynced done
unsynced_more Begin b done s = refl
unsynced_more (Append n) b done s = refl
unsynced_more Sync b done s = refl
unsynced_more Drop b done s = refl
unsynced_more ToMain b done s = cc
unsynced_more ToJournal b done s = refl
unsynced_more (Write at n) b done s = refl
unsynced_more (Cut n) b done s = refl
unsynced_more SyncFile b done s = cc
unsynced_more DropIt b done s = refl

synced_more : (call : Logged) (b : List ℕ) (done : List Call) → is_sync call ≡ false → synced (call_of call b ∷ done) ≡ synced done
synced_more Begin b done s = refl
synced_more (Append n) b done s = refl
synced_more Sync b done s = refl
synced_more Drop b done s = refl
synced_more ToMain b done s = cc
synced_more ToJournal b done s = refl
synced_more (Write at n) b done s = refl
synced_more (Cut n) b done s = refl
synced_more SyncFile b done s = cc
synced_more DropIt b done s = refl

unsynced_none : (call : Logged) (b : List ℕ) (done : List Call) → is_sync call ≡ true → unsynced (call_of call b ∷ done) ≡ []
unsynced_none Begin b done s = cc
unsynced_none (Append n) b done s = cc
unsynced_none Sync b done s = cc
unsynced_none Drop b done s = cc
unsynced_none ToMain b done s = refl
unsynced_none ToJournal b done s = cc
unsynced_none (Write at n) b done s = cc
unsynced_none (Cut n) b done s = cc
unsynced_none SyncFile b done s = refl
unsynced_none DropIt b done s = cc

synced_all : (call : Logged) (b : List ℕ) (done : List Call) → is_sync call ≡ true → synced (call_of call b ∷ done) ≡ call_of call b ∷ done
synced_all Begin b done s = cc
synced_all (Append n) b done s = cc
synced_all Sync b done s = cc
synced_all Drop b done s = cc
synced_all ToMain b done s = refl
synced_all ToJournal b done s = cc
synced_all (Write at n) b done s = cc
synced_all (Cut n) b done s = cc
synced_all SyncFile b done s = refl
synced_all DropIt b done s = cc

-- ---- the whole

-- a call was done, and stands at the end of the log with its piece
pub record IsNoted (call : Logged) (bytes : List ℕ) (old new : Store) : Type 0 where
  pub first : new.first ≡ old.first
  pub first_journal : new.first_journal ≡ old.first_journal
  pub log : new.log.items ≡ old.log.items ++ call ∷ []
  pub pool : new.pool.items ≡ old.pool.items ++ bytes
  pub log_room : vec_capacity old.log ≤ vec_capacity new.log
  pub pool_room : vec_capacity old.pool ≤ vec_capacity new.pool
  pub limit : new.limit ≡ old.limit
  pub state : new.state ≡ old.state
  pub limits : new.limits ≡ old.limits

pub noted_next : (call : Logged) (bytes : List ℕ) (old new : Store) → IsNoted call bytes old new → total old.log.items ≡ length old.pool.items → length bytes ≡ size_of call → IsNext (call_of call bytes) old new
noted_next call bytes old new n t s = record {
  start = ap (λ (h : Held). record { main = held_of h; journal = held_of new.first_journal }) n.first ∙ ap (λ (h : Held). record { main = held_of old.first; journal = held_of h }) n.first_journal;
  done = next_done old.log.items new.log.items call old.pool.items new.pool.items bytes n.log n.pool t (sym s);
  state = n.state;
  limits = n.limits;
  written = omega (arith, ap length n.pool, length-append old.pool.items bytes, piece_size call bytes s);
}

-- what `Main` was last made safe as, and the marks of that moment
pub record IsMarked (s : Store) (start : Image) (done : List Call) (left : ℕ) : Type 0 where
  pub kept : IsHeld s.kept (kept_main start done) s.limit (left + pieces (unsynced done))
  pub calls : length (unsynced done) + s.mark.calls ≡ length s.log.items
  pub bytes : pieces (unsynced done) + s.mark.bytes ≡ length s.pool.items

pub noted_sound : (call : Logged) (bytes : List ℕ) (old new : Store) (calls left : ℕ) → IsNoted call bytes old new → length bytes ≡ size_of call
    → IsInside (call_of call bytes) (slots_in old) → IsSoundFor (calls + 1) (left + length bytes) old
    → HoldsSlots new (effect (call_of call bytes) (slots_in old)) left
    → IsMarked new (memory_of old).start (call_of call bytes ∷ (memory_of old).done) left
    → IsSoundFor calls left new
noted_sound call bytes old new calls left n s inside sound slots marked =
    let next = noted_next call bytes old new n sound.log.total s in
    let now : effect (call_of call bytes) (slots_in old) ≡ slots_in new = sym (λ k. slots_of (next.start k) (next.done k)) in
    let mark : IsMarked new (memory_of new).start (memory_of new).done left = subst (λ d. IsMarked new (memory_of new).start d left) (sym next.done) (subst (λ i. IsMarked new i (call_of call bytes ∷ (memory_of old).done) left) (sym next.start) marked) in
    let were : WereInside (memory_of new).start (memory_of new).done = subst (λ d. WereInside (memory_of new).start d) (sym next.done) (subst (λ i. WereInside i (call_of call bytes ∷ (memory_of old).done)) (sym next.start) (inside, sound.log.inside)) in
    record {
      slots = subst (λ t. HoldsSlots new t left) now slots;
      log = record {
        kept = mark.kept;
        start = subst (λ (l : ℕ). l ≤ vec_capacity new.first.bytes) (sym n.limit) (subst (λ (h : Held). old.limit ≤ vec_capacity h.bytes) (sym n.first) sound.log.start);
        start_journal = subst (λ (l : ℕ). l ≤ vec_capacity new.first_journal.bytes) (sym n.limit) (subst (λ (h : Held). old.limit ≤ vec_capacity h.bytes) (sym n.first_journal) sound.log.start_journal);
        total = omega (arith, ap total n.log, total-push old.log.items call, sound.log.total, ap length n.pool, length-append old.pool.items bytes, s);
        log_room = omega (arith, ap length n.log, length-append old.log.items (call ∷ []), n.log_room, sound.log.log_room);
        pool_room = omega (arith, ap length n.pool, length-append old.pool.items bytes, n.pool_room, sound.log.pool_room);
        mark_calls = mark.calls;
        mark_bytes = mark.bytes;
        inside = were;
      };
    }

-- a call that makes nothing safe
pub marked_later : (call : Logged) (bytes : List ℕ) (old new : Store) (calls left : ℕ) → IsNoted call bytes old new → length bytes ≡ size_of call → is_sync call ≡ false
    → IsLogged old (calls + 1) (left + length bytes) → new.kept ≡ old.kept → new.mark ≡ old.mark
    → IsMarked new (memory_of old).start (call_of call bytes ∷ (memory_of old).done) left
marked_later call bytes old new calls left n s not_sync logged kept mark =
    let done = (memory_of old).done in
    let more = unsynced_more call bytes done not_sync in
    let size = piece_size call bytes s in
    let less : IsHeld old.kept (kept_main (memory_of old).start done) old.limit (left + pieces (unsynced (call_of call bytes ∷ done)))
    = held_less old.kept _ _ _ _ logged.kept (omega (arith, ap pieces more, size)) in
    record {
      kept = subst (λ (h : Held). IsHeld h (kept_main (memory_of old).start (call_of call bytes ∷ done)) new.limit (left + pieces (unsynced (call_of call bytes ∷ done)))) (sym kept)
          (subst (λ (l : ℕ). IsHeld old.kept (kept_main (memory_of old).start (call_of call bytes ∷ done)) l (left + pieces (unsynced (call_of call bytes ∷ done)))) (sym n.limit)
          (subst (λ (m : Option (List ℕ)). IsHeld old.kept m old.limit (left + pieces (unsynced (call_of call bytes ∷ done)))) (sym (ap (λ (d : List Call). (slots_of (memory_of old).start d).main) (synced_more call bytes done not_sync))) less));
      calls = omega (arith, ap length more, ap (λ m. m.calls) mark, ap length n.log, length-append old.log.items (call ∷ []), logged.mark_calls);
      bytes = omega (arith, ap pieces more, size, ap (λ m. m.bytes) mark, ap length n.pool, length-append old.pool.items bytes, logged.mark_bytes);
    }

-- one that makes `Main` safe
pub marked_now : (call : Logged) (bytes : List ℕ) (start : Image) (done : List Call) (new : Store) (left : ℕ) → is_sync call ≡ true
    → IsHeld new.kept (effect (call_of call bytes) (slots_of start done)).main new.limit left → new.mark.calls ≡ length new.log.items → new.mark.bytes ≡ length new.pool.items
    → IsMarked new start (call_of call bytes ∷ done) left
marked_now call bytes start done new left sync kept calls in_pool =
    let none = unsynced_none call bytes done sync in
    record {
      kept = subst (λ (m : Option (List ℕ)). IsHeld new.kept m new.limit (left + pieces (unsynced (call_of call bytes ∷ done)))) (sym (ap (λ (d : List Call). (slots_of start d).main) (synced_all call bytes done sync)))
          (held_less new.kept _ _ _ _ kept (omega (arith, ap pieces none)));
      calls = omega (arith, ap length none, calls);
      bytes = omega (arith, ap pieces none, in_pool);
    }

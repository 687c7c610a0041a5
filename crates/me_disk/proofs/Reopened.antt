-- What a depot in memory is opened on again is one of its images.
use Rattle.std.proofs.Common.{◌≡◌, inl, inr, ℕ, ◌-◌, ◌≤◌, List, [], ◌∷◌, ◌++◌, length, take, refl, sym, ◌∙◌, ap, subst, arith, length-take, append_assoc}
use Rattle.std.specs.Prelude.{reverse, nat_lt, true, false, if◌then◌else◌, ⊤}
use Rattle.std.specs.declared.option.Option.{Option}
use Rattle.std.proofs.lemmas.List.{reverse-append, reverse-reverse}
use Rattle.me_disk.specs.declared.memory.Pick.{Pick}
use Rattle.me_disk.specs.declared.memory.Pick.TheVariants.{Before, After, Torn}
use Rattle.me_disk.specs.Disk.{Image, read_as}
use Rattle.me_disk.specs.Calls.{Call, TornBytes, CutBytes}
use Rattle.me_disk.specs.Calls.Call.{BeginWork, AppendWork, SyncWork, DropWork, InstallMain, InstallJournal, WriteMain, SetMainLen, SyncMain, DropJournal}
use Rattle.me_disk.specs.Memory.{slots_of, MayLeave, reads_now}
use Rattle.me_disk.specs.Reopened.{unsynced, synced, main_piece, torn, whole, replay, kept_main, picked}
use Rattle.me_disk.specs.Store.{IsInside, WereInside}
use Rattle.me_bytes.specs.Bytes.{overlay}
use Rattle.me_disk.proofs.Does.{overlay-torn, CutBytes-refl, OnBoth-refl, OnBoth-there}
use Rattle.me_disk.proofs.Runs.{TornBytes-refl}

-- this main, with the journal as it is
abbrev with_main : Option (List ℕ) → Image → List Call → Image
with_main main start done = record { main = main; journal = (slots_of start done).journal }

-- the call leaves `Main` in doubt until a sync
abbrev IsUnsure : Call → Type 0
IsUnsure SyncMain = ⊥
IsUnsure InstallMain = ⊥
IsUnsure _ = ⊤

-- a main that might be left might still be left after such a call
skip : (c : Call) (start : Image) (done : List Call) (main : Option (List ℕ)) → IsUnsure c → MayLeave start done (with_main main start done) → MayLeave start (c ∷ done) (with_main main start (c ∷ done))
skip BeginWork start done main u h = inr (_, h, refl)
skip (AppendWork bytes) start done main u h = inr (_, h, refl)
skip SyncWork start done main u h = inr (_, h, refl)
skip DropWork start done main u h = inr (_, h, refl)
skip InstallMain start done main u h = absurd u
skip InstallJournal start done main u h = inr (_, h, record { main = refl; journal = refl })
skip (WriteMain at bytes) start done main u h = inr (_, h, record { main = OnBoth-refl (TornBytes at (length bytes)) (TornBytes-refl at (length bytes)) main; journal = refl })
skip (SetMainLen n) start done main u h = inr (_, h, record { main = OnBoth-refl (CutBytes n) (CutBytes-refl n) main; journal = refl })
skip SyncMain start done main u h = absurd u
skip DropJournal start done main u h = inr (_, h, record { main = refl; journal = refl })

-- what was last made safe might be left
kept_may : (start : Image) (done : List Call) → MayLeave start done (with_main (kept_main start done) start done)
kept_may start [] = refl
kept_may start (BeginWork ∷ done) = skip BeginWork start done _ tt (kept_may start done)
kept_may start (AppendWork bytes ∷ done) = skip (AppendWork bytes) start done _ tt (kept_may start done)
kept_may start (SyncWork ∷ done) = skip SyncWork start done _ tt (kept_may start done)
kept_may start (DropWork ∷ done) = skip DropWork start done _ tt (kept_may start done)
kept_may start (InstallMain ∷ done) = inl refl
kept_may start (InstallJournal ∷ done) = skip InstallJournal start done _ tt (kept_may start done)
kept_may start (WriteMain at bytes ∷ done) = skip (WriteMain at bytes) start done _ tt (kept_may start done)
kept_may start (SetMainLen n ∷ done) = skip (SetMainLen n) start done _ tt (kept_may start done)
kept_may start (SyncMain ∷ done) = refl
kept_may start (DropJournal ∷ done) = skip DropJournal start done _ tt (kept_may start done)

-- ---- a part of a piece

overlay-part : (at n : ℕ) (b o : List ℕ) → at ≤ length o → TornBytes at (length b) o (overlay at (take n b) o)
overlay-part at n b o h =
    let p = overlay-torn at (take n b) o h in
    record { no_shorter = p.no_shorter; before = p.before; after = λ q low far. p.after q low (omega (arith, length-take n b, far)) }

torn_may : (n : ℕ) (c : Call) (start : Image) (done : List Call) → IsUnsure c → IsInside c (slots_of start done) → MayLeave start (c ∷ done) (with_main (torn n c (slots_of start done).main) start (c ∷ done))
torn_may n BeginWork start done u inside = skip BeginWork start done _ tt (reads_now start done)
torn_may n (AppendWork bytes) start done u inside = skip (AppendWork bytes) start done _ tt (reads_now start done)
torn_may n SyncWork start done u inside = skip SyncWork start done _ tt (reads_now start done)
torn_may n DropWork start done u inside = skip DropWork start done _ tt (reads_now start done)
torn_may n InstallMain start done u inside = absurd u
torn_may n InstallJournal start done u inside = skip InstallJournal start done _ tt (reads_now start done)
torn_may n (WriteMain at bytes) start done u inside = inr (
  read_as (slots_of start done),
  reads_now start done,
  record {
    main = OnBoth-there (TornBytes at (length bytes)) _ _ inside.0 (overlay-part at n bytes _ inside.1);
    journal = refl;
  },
)
torn_may n (SetMainLen k) start done u inside = skip (SetMainLen k) start done _ tt (reads_now start done)
torn_may n SyncMain start done u inside = absurd u
torn_may n DropJournal start done u inside = skip DropJournal start done _ tt (reads_now start done)

whole_is : (c : Call) (start : Image) (done : List Call) → IsUnsure c → whole c (slots_of start done).main ≡ (slots_of start (c ∷ done)).main
whole_is BeginWork start done u = refl
whole_is (AppendWork bytes) start done u = refl
whole_is SyncWork start done u = refl
whole_is DropWork start done u = refl
whole_is InstallMain start done u = absurd u
whole_is InstallJournal start done u = refl
whole_is (WriteMain at bytes) start done u = refl
whole_is (SetMainLen n) start done u = refl
whole_is SyncMain start done u = absurd u
whole_is DropJournal start done u = refl

-- ---- calls in order

abbrev AreUnsure : List Call → Type 0
AreUnsure [] = ⊤
AreUnsure (c ∷ cs) = IsUnsure c × AreUnsure cs

-- later calls, the first of which comes next
turned : (c : Call) (later done : List Call) → reverse later ++ (c ∷ done) ≡ reverse (c ∷ later) ++ done
turned c later done = sym (ap (λ (l : List Call). l ++ done) (reverse-append (c ∷ []) later) ∙ append_assoc (reverse later) (c ∷ []) done)

skip_all : (later : List Call) (start : Image) (done : List Call) (main : Option (List ℕ)) → AreUnsure later → MayLeave start done (with_main main start done)
    → MayLeave start (reverse later ++ done) (with_main main start (reverse later ++ done))
skip_all [] start done main u h = h
skip_all (c ∷ later) start done main u h =
    subst (λ (l : List Call). MayLeave start l (with_main main start l)) (turned c later done) (skip_all later start (c ∷ done) main u.1 (skip c start done main u.0 h))

inside_rest : (cs : List Call) (start : Image) (done : List Call) → WereInside start (cs ++ done) → WereInside start done
inside_rest [] start done h = h
inside_rest (c ∷ cs) start done h = inside_rest cs start done h.1

replay_may : (n : ℕ) (later : List Call) (start : Image) (done : List Call) → AreUnsure later → WereInside start (reverse later ++ done)
    → MayLeave start (reverse later ++ done) (with_main (replay n later (slots_of start done).main) start (reverse later ++ done))
replay_may n [] start done u inside = reads_now start done
replay_may n (c ∷ later) start done u inside =
    let there : WereInside start (reverse later ++ (c ∷ done)) = subst (λ (l : List Call). WereInside start l) (sym (turned c later done)) inside in
    let first : WereInside start (c ∷ done) = inside_rest (reverse later) start (c ∷ done) there in
    let goes = λ (main : Option (List ℕ)) (l : List Call). MayLeave start l (with_main main start l) in
    subst (λ (l : List Call). goes (replay n (c ∷ later) (slots_of start done).main) l) (turned c later done)
    (elim (nat_lt n (main_piece c)) as (λ b. goes (if b then torn n c (slots_of start done).main else replay (n - main_piece c) later (whole c (slots_of start done).main)) (reverse later ++ (c ∷ done))) [
      | true ↦ skip_all later start (c ∷ done) _ u.1 (torn_may n c start done u.0 first.0)
      | false ↦ subst (λ (m : Option (List ℕ)). goes (replay (n - main_piece c) later m) (reverse later ++ (c ∷ done))) (sym (whole_is c start done u.0)) (replay_may (n - main_piece c) later start (c ∷ done) u.1 there)
    ])

-- ---- the calls since the last sync

pub split_calls : (done : List Call) → unsynced done ++ synced done ≡ done
split_calls [] = refl
split_calls (BeginWork ∷ done) = ap (λ (l : List Call). BeginWork ∷ l) (split_calls done)
split_calls (AppendWork bytes ∷ done) = ap (λ (l : List Call). AppendWork bytes ∷ l) (split_calls done)
split_calls (SyncWork ∷ done) = ap (λ (l : List Call). SyncWork ∷ l) (split_calls done)
split_calls (DropWork ∷ done) = ap (λ (l : List Call). DropWork ∷ l) (split_calls done)
split_calls (InstallMain ∷ done) = refl
split_calls (InstallJournal ∷ done) = ap (λ (l : List Call). InstallJournal ∷ l) (split_calls done)
split_calls (WriteMain at bytes ∷ done) = ap (λ (l : List Call). WriteMain at bytes ∷ l) (split_calls done)
split_calls (SetMainLen n ∷ done) = ap (λ (l : List Call). SetMainLen n ∷ l) (split_calls done)
split_calls (SyncMain ∷ done) = refl
split_calls (DropJournal ∷ done) = ap (λ (l : List Call). DropJournal ∷ l) (split_calls done)

unsynced_unsure : (done : List Call) → AreUnsure (unsynced done)
unsynced_unsure [] = tt
unsynced_unsure (BeginWork ∷ done) = (tt, unsynced_unsure done)
unsynced_unsure (AppendWork bytes ∷ done) = (tt, unsynced_unsure done)
unsynced_unsure (SyncWork ∷ done) = (tt, unsynced_unsure done)
unsynced_unsure (DropWork ∷ done) = (tt, unsynced_unsure done)
unsynced_unsure (InstallMain ∷ done) = tt
unsynced_unsure (InstallJournal ∷ done) = (tt, unsynced_unsure done)
unsynced_unsure (WriteMain at bytes ∷ done) = (tt, unsynced_unsure done)
unsynced_unsure (SetMainLen n ∷ done) = (tt, unsynced_unsure done)
unsynced_unsure (SyncMain ∷ done) = tt
unsynced_unsure (DropJournal ∷ done) = (tt, unsynced_unsure done)

unsure_append : (cs ds : List Call) → AreUnsure cs → AreUnsure ds → AreUnsure (cs ++ ds)
unsure_append [] ds a b = b
unsure_append (c ∷ cs) ds a b = (a.0, unsure_append cs ds a.1 b)

unsure_reverse : (cs : List Call) → AreUnsure cs → AreUnsure (reverse cs)
unsure_reverse [] h = tt
unsure_reverse (c ∷ cs) h =
    let more : AreUnsure (reverse cs ++ c ∷ []) = unsure_append (reverse cs) (c ∷ []) (unsure_reverse cs h.1) (h.0, tt) in
    subst AreUnsure (sym (reverse-append (c ∷ []) cs)) more

torn_all : (n : ℕ) (start : Image) (done : List Call) → WereInside start done → MayLeave start done (with_main (replay n (reverse (unsynced done)) (kept_main start done)) start done)
torn_all n start done inside =
    let later = reverse (unsynced done) in
    let e : reverse later ++ synced done ≡ done = ap (λ (l : List Call). l ++ synced done) (reverse-reverse (unsynced done)) ∙ split_calls done in
    let may = replay_may n later start (synced done) (unsure_reverse (unsynced done) (unsynced_unsure done)) (subst (WereInside start) (sym e) inside) in
    subst (λ (l : List Call). MayLeave start l (with_main (replay n later (kept_main start done)) start l)) e may

-- what is picked is one of the images that a crash may leave
pub picked_may : (pick : Pick) (start : Image) (done : List Call) → WereInside start done → MayLeave start done (picked pick start done)
picked_may Before start done inside = kept_may start done
picked_may After start done inside = reads_now start done
picked_may (Torn n) start done inside = torn_all n start done inside

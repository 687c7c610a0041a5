-- What stands after a recovery.
use Rattle.std.proofs.Common.{◌≡◌, ℕ, List, Some, None, refl, sym, ◌∙◌, ap, subst}
use Rattle.std.specs.Prelude.{IsTrue, IsSome, Result, Ok, Err, OnOk}
use Rattle.std.specs.declared.option.Option.{Option}
use Rattle.me_disk.specs.declared.depot.DepotFault.{DepotFault}
use Rattle.me_disk.specs.Disk.{Image, Disk, IsLawful, Only, Leaves, plain, read_as, bytes_of}
use Rattle.me_disk.specs.Steps.{Does, ReadsOnly}
use Rattle.me_disk.specs.Calls.Call.{DropWork}
use Rattle.me_disk.proofs.Runs.{Leaves-trans, Leaves-does, same_image}
use Rattle.edit_journal.specs.Settled.{SettlesAs, Settles, StandsAlone, IsDamaged}
use Rattle.edit_journal.specs.Damage.{damage_over}
use Rattle.edit_journal.specs.Strips.{laid_by}
use Rattle.edit_journal.specs.Journal.{version_of}
use Rattle.edit_journal.specs.Reads.{IsSoundHead}
use Rattle.edit_journal.specs.declared.fault.JournalHead.{JournalHead}
use Rattle.edit_journal.proofs.Walk.{damage_unsettles}
use Rattle.edit_journal.proofs.Laws.{journal_of}
use Rattle.recovery.specs.Redo.{Redo, IsRedo, made, SettlesAlike}
use Rattle.recovery.specs.Recovered.{IsBroken, IsRedone, Recovers}
use Rattle.part_tree.specs.Patches.{laid}
use Rattle.recovery.proofs.Alike.{entry_settles, alike}
use Rattle.recovery.proofs.Recovers.{same_entry, only_read}

pub there : (m : Option (List ℕ)) → IsSome m → m ≡ Some (bytes_of m)
there None h = absurd cc
there (Some l) h = refl

is_there : (m : Option (List ℕ)) (l : List ℕ) → m ≡ Some l → IsSome m
is_there None l is = absurd cc
is_there (Some k) l is = refl

held_there : (m : Option (List ℕ)) (l : List ℕ) → m ≡ Some l → m ≡ Some (bytes_of m)
held_there m l is = is ∙ ap (λ (x : Option (List ℕ)). Some (bytes_of x)) (sym is)

-- `Work` is taken away where this file stands alone
pub alone_dropped : (file : List ℕ) (b c : Disk) (x : Unit {0}) → IsLawful b → IsLawful c → (IsTrue b.tells → b.slots.main ≡ Some file) → (IsTrue b.tells → b.slots.journal ≡ None) → Only (plain (Some file)) b → Does DropWork b c (Ok x)
    → StandsAlone (bytes_of c.slots.main) c
alone_dropped file b c x law_b law_c main journal only does = record {
  stands = record {
    main = λ tells. held_there c.slots.main file (does.main_stays ∙ main (sym does.tells ∙ tells));
    journal = λ tells. does.journal_stays ∙ journal (sym does.tells ∙ tells);
    state = does.state;
  };
  only = λ i h.
      let tells = sym does.tells ∙ law_c.told i h in
      only i (does.quiet.images i h) ∙ ap (λ (m : Option (List ℕ)). plain m) (sym (main tells) ∙ sym does.main_stays ∙ held_there c.slots.main file (does.main_stays ∙ main tells));
}

-- after the redo
pub redo_done : (w : Redo) (a b c : Disk) (x : Unit {0}) → IsLawful b → IsLawful c → b.tells ≡ a.tells → w.entry ≡ read_as a.slots → (IsTrue a.tells → IsRedo w) → Only (plain (Some (made w))) b
    → (IsTrue b.tells → b.slots.main ≡ Some (made w)) → (IsTrue b.tells → b.slots.journal ≡ None) → Does DropWork b c (Ok x) → Recovers a c
redo_done w a b c x law_b law_c same entry redo only main journal does =
    let alone = alone_dropped (made w) b c x law_b law_c main journal only does in record {
      file = λ tells. is_there c.slots.main (bytes_of c.slots.main) (alone.stands.main tells);
      journal = alone.stands.journal;
      state = alone.stands.state;
      alone = λ one. alone;
      settles = λ tells.
          let t = same ∙ tells in
          let is : Some (bytes_of c.slots.main) ≡ Some (made w) = sym (held_there c.slots.main (made w) (does.main_stays ∙ main t)) ∙ does.main_stays ∙ main t in
          subst (λ (i : Image). Settles (Some (bytes_of c.slots.main)) i) entry (subst (λ (f : Option (List ℕ)). Settles f w.entry) (sym is) (entry_settles w (redo tells)));
      work = λ tells. does.work (same ∙ tells);
    }

-- where no journal was
pub plain_done : (a c : Disk) (x : Unit {0}) → IsLawful a → IsLawful c → (IsTrue a.tells → IsSome a.slots.main × (a.slots.journal ≡ None)) → Does DropWork a c (Ok x) → Recovers a c
plain_done a c x law_a law_c none does = record {
  file = λ tells. subst (λ (m : Option (List ℕ)). IsSome m) (sym does.main_stays) (none (sym does.tells ∙ tells)).0;
  journal = λ tells. does.journal_stays ∙ (none (sym does.tells ∙ tells)).1;
  state = does.state;
  alone = λ only. alone_dropped (bytes_of a.slots.main) a c x law_a law_c (λ tells. there a.slots.main (none tells).0) (λ tells. (none tells).1)
      (λ i h. let tells = law_a.told i h in only i h ∙ same_image (read_as a.slots) (plain (Some (bytes_of a.slots.main))) (there a.slots.main (none tells).0) (none tells).1) does;
  settles = λ tells.
      let n = none tells in
      let is : Some (bytes_of c.slots.main) ≡ a.slots.main = sym (held_there c.slots.main (bytes_of a.slots.main) (does.main_stays ∙ there a.slots.main n.0)) ∙ does.main_stays in
      subst (λ (j : Option (List ℕ)). SettlesAs a.slots.main j (Some (bytes_of c.slots.main))) (sym n.1) is;
  work = λ tells. does.work tells;
}

-- a call on `Work` alone leaves what the entry stands for
pub plain_leaves : (a c : Disk) (r : Result Unit DepotFault) → Only (read_as a.slots) a → Does DropWork a c r → Leaves (SettlesAlike (read_as a.slots)) a c
plain_leaves a c r only does = Leaves-does (SettlesAlike (read_as a.slots)) DropWork a c r does (λ i j h same. subst (SettlesAlike (read_as a.slots)) (sym (same ∙ only j h)) (λ file is. is))

pub redo_leaves : (w : Redo) (a b c : Disk) (r : Result Unit DepotFault) → IsLawful b → b.tells ≡ a.tells → w.entry ≡ read_as a.slots → (IsTrue a.tells → IsRedo w) → Only (plain (Some (made w))) b → Leaves (SettlesAlike w.entry) a b → Does DropWork b c r
    → Leaves (SettlesAlike (read_as a.slots)) a c
redo_leaves w a b c r law same entry redo only before does =
    subst (λ (e : Image). Leaves (SettlesAlike e) a c) entry
    (Leaves-trans (SettlesAlike w.entry) a b c before
    (Leaves-does (SettlesAlike w.entry) DropWork b c r does (λ i j h step.
    let known = redo (sym same ∙ law.told j h) in
    alike w.entry i (Some (made w)) (entry_settles w known) (subst (Settles (Some (made w))) (sym (step ∙ only j h)) refl))))

-- what was read before leaves the entry as it was
pub reads_done : (a b c : Disk) → ReadsOnly a b → Recovers b c → Recovers a c
reads_done a b c reads done = record {
  file = done.file;
  journal = done.journal;
  state = done.state;
  alone = λ only. done.alone (only_read a b reads only);
  settles = λ tells. subst (λ (i : Image). Settles (Some (bytes_of c.slots.main)) i) (same_entry a b reads) (done.settles (reads.tells ∙ tells));
  work = λ tells. done.work (reads.tells ∙ tells);
}

pub redo_ends : (w : Redo) (a b c : Disk) (r : Result Unit DepotFault) → IsLawful b → IsLawful c → b.tells ≡ a.tells → w.entry ≡ read_as a.slots → (IsTrue a.tells → IsRedo w) → Only (plain (Some (made w))) b
    → (IsTrue a.tells → b.slots.main ≡ Some (made w)) → (IsTrue a.tells → b.slots.journal ≡ None) → Does DropWork b c r → OnOk r (Recovers a c)
redo_ends w a b c (Ok x) law_b law_c same entry redo only main journal does =
    redo_done w a b c x law_b law_c same entry redo only (λ t. main (sym same ∙ t)) (λ t. journal (sym same ∙ t)) does
redo_ends w a b c (Err e) law_b law_c same entry redo only main journal does = tt

-- ---- a damaged journal

nothing_else : (m j : Option (List ℕ)) (at : ℕ) → IsSome j → damage_over m (bytes_of j) ≡ Some at → (file : Option (List ℕ)) → SettlesAs m j file → ⊥
nothing_else m None at there broken file settles = absurd cc
nothing_else m (Some j) at there broken file settles = damage_unsettles m j at broken file settles

pub broken_found : (a b : Disk) (at : ℕ) → ReadsOnly a b → IsSome a.slots.main → IsSome a.slots.journal → damage_over b.slots.main (bytes_of b.slots.journal) ≡ Some at → IsBroken a.slots at
broken_found a b at reads file journal broken =
    let place : damage_over a.slots.main (bytes_of a.slots.journal) ≡ Some at = (λ i. damage_over (sym reads.main i) (bytes_of (sym reads.journal i))) ∙ broken in
    record { file = file; journal = journal; place = place; nothing = nothing_else a.slots.main a.slots.journal at journal place }

-- an image of a sound journal stands for a file
pub sound_settles : (a : Disk) (h : JournalHead) → IsSome a.slots.journal → IsSoundHead h a.slots → IsDamaged (read_as a.slots) → ⊥
sound_settles a h journal sound damaged =
    damaged (Some (laid h.new_len (laid_by sound.strips) (bytes_of a.slots.main)))
    (subst (λ (m : Option (List ℕ)). SettlesAs m a.slots.journal (Some (laid h.new_len (laid_by sound.strips) (bytes_of a.slots.main)))) (sym (there a.slots.main sound.there))
    (subst (λ (j : Option (List ℕ)). SettlesAs (Some (bytes_of a.slots.main)) j (Some (laid h.new_len (laid_by sound.strips) (bytes_of a.slots.main)))) (sym (there a.slots.journal journal))
    (record { old = h.old_len; new = h.new_len; patches = laid_by sound.strips; journal = journal_of (version_of h.version) (bytes_of a.slots.journal) h.old_len h.new_len sound.strips sound.journal; long = sound.long; is = refl })))

pub plain_settles : (a : Disk) → a.slots.journal ≡ None → IsDamaged (read_as a.slots) → ⊥
plain_settles a none damaged = damaged a.slots.main (subst (λ (j : Option (List ℕ)). SettlesAs a.slots.main j a.slots.main) (sym none) refl)

pub redone_found : (a : Disk) (h : JournalHead) → IsSome a.slots.journal → IsSoundHead h a.slots → damage_over a.slots.main (bytes_of a.slots.journal) ≡ None → IsRedone a.slots h.new_len
redone_found a h journal sound whole = record { file = sound.there; journal = journal; old = h.old_len; patches = laid_by sound.strips; is = journal_of (version_of h.version) (bytes_of a.slots.journal) h.old_len h.new_len sound.strips sound.journal; undamaged = whole }

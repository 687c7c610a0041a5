-- What an image with a journal stands for.
use Rattle.std.proofs.Common.{◌≡◌, ℕ, ◌≤◌, min, List, length, Some, sym, subst}
use Rattle.std.specs.declared.option.Option.{Option}
use Rattle.part_tree.specs.declared.plan.Patch.{Patch}
use Rattle.part_tree.specs.Patches.{laid}
use Rattle.me_disk.specs.Disk.{Image}
use Rattle.edit_journal.specs.Journal.{Journal}
use Rattle.edit_journal.specs.Settled.{Torn, Redoes, SettlesAs, Settles}
use Rattle.edit_journal.proofs.Laid.{torn_laid}
use Rattle.edit_journal.proofs.Laws.{rules_in}

pub torn_settles : (j : List ℕ) (old new : ℕ) (ps : List Patch) (o : List ℕ) (i : Image) (m : List ℕ) → Journal j old new ps → min old new ≤ length o
    → i.journal ≡ Some j → i.main ≡ Some m → Torn ps (min old new) o m → Settles (Some (laid new ps o)) i
torn_settles j old new ps o i m journal long is_journal is_main torn =
    let here : Redoes m j (laid new ps o) = record {
      old = old;
      new = new;
      patches = ps;
      journal = journal;
      long = torn.long;
      is = sym (torn_laid old new ps o m (rules_in journal) long torn);
    } in
    subst (λ (x : Option (List ℕ)). SettlesAs x i.journal (Some (laid new ps o))) (sym is_main) (subst (λ (x : Option (List ℕ)). SettlesAs (Some m) x (Some (laid new ps o))) (sym is_journal) here)

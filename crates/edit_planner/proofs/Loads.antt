-- The cells of parts that are read one after the other.
use Rattle.std.proofs.Common.{◌≡◌, ◌∙◌, ◌≤◌, ◌<◌, ℕ, zero, suc, ◌+◌, List, [], ◌∷◌, ◌++◌, length, drop, get_or, refl, sym, ap, arith, subst, append_assoc}
use Rattle.std.specs.Prelude.{IsTrue}
use Rattle.me_disk.specs.Disk.{Disk, bytes_of}
use Rattle.me_disk.specs.Holds.{Holds, Inside}
use Rattle.me_disk.specs.Steps.{ReadsOnly}
use Rattle.std.proofs.lemmas.List.{append-nil, at_drop_more, drop_all}
use Rattle.part_tree.specs.declared.part.Part.{Part}
use Rattle.part_tree.specs.declared.part.Role.TheVariants.{Opaque}
use Rattle.container_model.specs.Chunk.{Chunk, spell}
use Rattle.wave_file.specs.Map.{Ascend, part_as}
use Rattle.part_tree.specs.declared.part.Role.{Role}
use Rattle.edit_planner.specs.declared.cells.CellAt.{CellAt}
use Rattle.edit_planner.specs.Cells.{AreReadable, IsReadable, Follow}
use Rattle.edit_planner.specs.Stand.{StandsAt, StandFrom, held_at, held_from, parts_from}

-- a part of nothing
abbrev pub no_part : Part
no_part = record { id = record { 0 = [] }; at = 0; body = record { at = 0; len = 0 }; next = 0; role = Opaque }

-- what is read so far and what is left are the whole
pub record LoadLeft (role : ℕ → Chunk → Role) (b : List ℕ) (from : ℕ) (cs : List Chunk) (at k : ℕ) (parts : List Part) (cells : List CellAt) : Type 0 where
  pub told_left : cells ++ held_from role at (drop k cs) ≡ held_from role from cs
  pub parts_left : drop k parts ≡ parts_from role at (drop k cs)
  pub stands : StandFrom b at (drop k cs)

pub none_loaded : (role : ℕ → Chunk → Role) (b : List ℕ) (from : ℕ) (cs : List Chunk) (parts : List Part) → parts ≡ parts_from role from cs → StandFrom b from cs → LoadLeft role b from cs from 0 parts []
none_loaded role b from cs parts e s = record { told_left = refl; parts_left = e; stands = s }

-- the first chunk that is left
pub record Next (role : ℕ → Chunk → Role) (b : List ℕ) (at k : ℕ) (cs : List Chunk) (part : Part) : Type 0 where
  pub chunk : Chunk
  pub split : drop k cs ≡ chunk ∷ drop (k + 1) cs
  pub is_part : part ≡ part_as (role at chunk) at chunk
  pub stands : StandsAt b at chunk
  pub later : StandFrom b (at + length (spell chunk)) (drop (k + 1) cs)

abbrev tail : {X : Type 0} → List X → List X
tail [] = []
tail (x ∷ xs) = xs

drop_tail : (k : ℕ) (c : Chunk) (cs ds : List Chunk) → drop k cs ≡ c ∷ ds → drop (k + 1) cs ≡ ds
drop_tail zero c [] ds e = absurd cc
drop_tail zero c (d ∷ cs) ds e = cc
drop_tail (suc k) c [] ds e = absurd cc
drop_tail (suc k) c (d ∷ cs) ds e = let n : suc k + 1 ≡ suc (k + 1) = omega arith in ap (λ (m : ℕ). drop m (d ∷ cs)) n ∙ drop_tail k c cs ds e

pub next_chunk : (role : ℕ → Chunk → Role) (b : List ℕ) (from : ℕ) (cs : List Chunk) (at k : ℕ) (parts : List Part) (cells : List CellAt) (part d : Part) → LoadLeft role b from cs at k parts cells → k < length parts → part ≡ get_or parts k d → Next role b at k cs part
next_chunk role b from cs at k parts cells part d left lt here = go (drop k cs) refl (sym split ∙ left.parts_left) left.stands
  where
    split : drop k parts ≡ part ∷ drop (k + 1) parts
    split = at_drop_more (λ (ps : List Part). ps) parts k d lt ∙ ap (λ (p : Part). p ∷ drop (k + 1) parts) (sym here)

    go : (ds : List Chunk) → drop k cs ≡ ds → part ∷ drop (k + 1) parts ≡ parts_from role at ds → StandFrom b at ds → Next role b at k cs part
    go [] e p s = absurd cc
    go (x ∷ ds) e p s =
        let rest : drop (k + 1) cs ≡ ds = drop_tail k x cs ds e in
        record {
          chunk = x;
          split = e ∙ ap (λ (y : List Chunk). x ∷ y) (sym rest);
          is_part = cc;
          stands = s.0;
          later = subst (StandFrom b (at + length (spell x))) (sym rest) s.1;
        }

pub one_loaded : (role : ℕ → Chunk → Role) (b : List ℕ) (from : ℕ) (cs : List Chunk) (at k to : ℕ) (parts : List Part) (cells more : List CellAt) (part d : Part) (cell : CellAt) → LoadLeft role b from cs at k parts cells → k < length parts → part ≡ get_or parts k d
    → (n : Next role b at k cs part) → to ≡ part.next → cell ≡ held_at (role at n.chunk) at n.chunk → more ≡ cells ++ cell ∷ [] → LoadLeft role b from cs to (k + 1) parts more
one_loaded role b from cs at k to parts cells more part d cell left lt here n place is pushed =
    let next : to ≡ at + length (spell n.chunk) = place ∙ ap (λ (p : Part). p.next) n.is_part in
    let split : drop k parts ≡ part ∷ drop (k + 1) parts = at_drop_more (λ (ps : List Part). ps) parts k d lt ∙ ap (λ (p : Part). p ∷ drop (k + 1) parts) (sym here) in
    let rows : part ∷ drop (k + 1) parts ≡ part_as (role at n.chunk) at n.chunk ∷ parts_from role (at + length (spell n.chunk)) (drop (k + 1) cs) = sym split ∙ left.parts_left ∙ ap (parts_from role at) n.split in
    let later : drop (k + 1) parts ≡ parts_from role (at + length (spell n.chunk)) (drop (k + 1) cs) = ap tail rows in
    record {
      told_left =
          ap (λ (xs : List CellAt). xs ++ held_from role to (drop (k + 1) cs)) pushed
          ∙ append_assoc cells (cell ∷ []) (held_from role to (drop (k + 1) cs))
          ∙ ap (λ (m : ℕ). cells ++ cell ∷ held_from role m (drop (k + 1) cs)) next
          ∙ ap (λ (x : CellAt). cells ++ x ∷ held_from role (at + length (spell n.chunk)) (drop (k + 1) cs)) is
          ∙ ap (λ (ds : List Chunk). cells ++ held_from role at ds) (sym n.split)
          ∙ left.told_left;
      parts_left = later ∙ ap (λ (m : ℕ). parts_from role m (drop (k + 1) cs)) (sym next);
      stands = subst (λ (m : ℕ). StandFrom b m (drop (k + 1) cs)) (sym next) n.later;
    }

no_chunks : (role : ℕ → Chunk → Role) (at : ℕ) (ds : List Chunk) → [] ≡ parts_from role at ds → ds ≡ []
no_chunks role at [] e = refl
no_chunks role at (d ∷ ds) e = absurd cc

pub all_loaded : (role : ℕ → Chunk → Role) (b : List ℕ) (from : ℕ) (cs : List Chunk) (at k : ℕ) (parts : List Part) (cells : List CellAt) → LoadLeft role b from cs at k parts cells → length parts ≤ k → cells ≡ held_from role from cs
all_loaded role b from cs at k parts cells left le =
    let none : drop k cs ≡ [] = no_chunks role at (drop k cs) (sym (drop_all k parts le) ∙ left.parts_left) in
    sym (append-nil cells) ∙ ap (λ (ds : List Chunk). cells ++ held_from role at ds) (sym none) ∙ left.told_left

-- ---- whatever the file

pub follow_more : (from : ℕ) (xs : List CellAt) (at : ℕ) (x : CellAt) → Follow from xs at → x.at ≡ at → at ≤ x.next → Follow from (xs ++ x ∷ []) x.next
follow_more from [] at x h e le = (e ∙ sym h, omega arith, omega arith, refl)
follow_more from (y ∷ xs) at x h e le = (h.0, h.1, omega (arith, h.2), follow_more y.next xs at x h.3 e le)

pub ascend_next : (at : ℕ) (parts : List Part) (k end : ℕ) (part d : Part) → k < length parts → part ≡ get_or parts k d → Ascend at (drop k parts) end
    → (at ≤ part.at) × (part.body.at ≡ part.at + 8) × (part.body.at + part.body.len ≤ part.next) × Ascend part.next (drop (k + 1) parts) end
ascend_next at parts k end part d lt here h =
    let split : drop k parts ≡ part ∷ drop (k + 1) parts = at_drop_more (λ (ps : List Part). ps) parts k d lt ∙ ap (λ (p : Part). p ∷ drop (k + 1) parts) (sym here) in
    subst (λ (ps : List Part). Ascend at ps end) split h

pub ascend_end : (at : ℕ) (parts : List Part) (end : ℕ) → Ascend at parts end → at ≤ end
ascend_end at [] end h = h
ascend_end at (p ∷ parts) end h = let l = ascend_end p.next parts end h.3 in omega (arith, h.0, h.1, h.2)

pub readable_push : (xs : List CellAt) (x : CellAt) → AreReadable xs → IsReadable x.content → AreReadable (xs ++ x ∷ [])
readable_push [] x h r = (r, tt)
readable_push (y ∷ xs) x h r = (h.0, readable_push xs x h.1 r)

holds_back : (old new : Disk) (b : List ℕ) → ReadsOnly old new → Holds new b → Holds old b
holds_back old new b reads h = record { tells = subst IsTrue reads.tells h.tells; bytes = sym (ap bytes_of reads.main) ∙ h.bytes }

pub inside_on : (old new : Disk) (end : ℕ) → ReadsOnly old new → Inside end old → Inside end new
inside_on old new end reads h b holds = h b (holds_back old new b reads holds)

-- Loops over the chunks of the first form of an AVI file.
use Rattle.std.proofs.Common.{◌≡◌, ◌∙◌, ◌≤◌, ◌<◌, ℕ, zero, suc, ◌+◌, Bool, true, false, List, [], ◌∷◌, ◌++◌, length, drop, get_or, refl, sym, ap, arith, subst}
use Rattle.std.specs.Prelude.{Option, Some, None, ◌&&◌, not, ◌==◌, if◌then◌else◌}
use Rattle.std.specs.List.{AllByRecursion}
use Rattle.std.proofs.lemmas.Bool.{and_parts, eqb-true}
use Rattle.std.proofs.lemmas.List.{at_drop_more}
use Rattle.part_tree.specs.declared.part.Part.{Part}
use Rattle.part_tree.specs.declared.part.Role.{Role}
use Rattle.container_model.specs.Chunk.{Chunk, spell}
use Rattle.avi_model.specs.Named.{is_hdrl}
use Rattle.wave_file.specs.Map.{Ascend, part_as}
use Rattle.edit_planner.specs.Stand.{StandFrom, StandsAt, parts_from}
use Rattle.edit_planner.specs.Tops.{EndsIn, IsRiff, StandsIn, begins, head_from, is_rest, plain_part}
use Rattle.edit_planner.specs.declared.head.Head.{Head}
use Rattle.edit_planner.proofs.Loads.{no_part}

-- ---- chunks of the form that follow each other

pub begins_there : (at : ℕ) (p : Part) → begins at p ≡ true → p.at ≡ at
begins_there at p h = eqb-true p.at at (and_parts (p.at == at) (not (is_rest p.role)) h).0

pub ascend_more : (low at : ℕ) (ps new : List Part) (p : Part) (end : ℕ) → Ascend low ps at → p.at ≡ at → EndsIn at end p → new ≡ ps ++ plain_part p ∷ [] → Ascend low new p.next
ascend_more low at ps new p end h here e same = subst (λ (qs : List Part). Ascend low qs p.next) (sym same) (go low ps h)
  where
    go : (low : ℕ) (ps : List Part) → Ascend low ps at → Ascend low (ps ++ plain_part p ∷ []) p.next
    go low [] h = (omega (arith, h, here), omega (arith, e.0, here), omega (arith, e.1), omega arith)
    go low (q ∷ ps) h = (h.0, h.1, h.2, go q.next ps h.3)

-- ---- the list `hdrl`

-- the parts that are left ascend from somewhere on
pub record AscendLeft (from end : ℕ) (ps : List Part) : Type 0 where
  pub at : ℕ
  pub low : from ≤ at
  pub ascend : Ascend at ps end

pub none_past : (from end : ℕ) (ps : List Part) → Ascend from ps end → AscendLeft from end ps
none_past from end ps h = record { at = from; low = omega arith; ascend = h }

ascend_end : (at : ℕ) (ps : List Part) (end : ℕ) → Ascend at ps end → at ≤ end
ascend_end at [] end h = h
ascend_end at (p ∷ ps) end h = let l = ascend_end p.next ps end h.3 in omega (arith, h.0, h.1, h.2)

pub record AscendNext (from end : ℕ) (p : Part) (ps : List Part) : Type 0 where
  pub low : from + 8 ≤ p.body.at
  pub inside : p.body.at + p.body.len ≤ end
  pub later : AscendLeft from end ps

pub ascend_next : (from end : ℕ) (parts : List Part) (k : ℕ) → k < length parts → AscendLeft from end (drop k parts) → AscendNext from end (get_or parts k no_part) (drop (k + 1) parts)
ascend_next from end parts k lt left =
    let split : drop k parts ≡ get_or parts k no_part ∷ drop (k + 1) parts = at_drop_more (λ (ps : List Part). ps) parts k no_part lt in
    let h = subst (λ (ps : List Part). Ascend left.at ps end) split left.ascend in
    let p = get_or parts k no_part in
    let last = ascend_end p.next (drop (k + 1) parts) end h.3 in
    record {
      low = omega (arith, left.low, h.0, h.1);
      inside = omega (arith, h.2, last);
      later = record { at = p.next; low = omega (arith, left.low, h.0, h.1, h.2); ascend = h.3 };
    }

-- the chunks that are left, of which none so far is the list
pub record HeadLeft (role : ℕ → Chunk → Role) (b : List ℕ) (from : ℕ) (cs : List Chunk) (n : ℕ) (ps : List Part) : Type 0 where
  pub at : ℕ
  pub ds : List Chunk
  pub parts : ps ≡ parts_from role at ds
  pub stands : StandFrom b at ds
  pub riff : AllByRecursion IsRiff ds
  pub same : head_from 0 from cs ≡ head_from n at ds

pub none_left : (role : ℕ → Chunk → Role) (b : List ℕ) (from : ℕ) (cs : List Chunk) (ps : List Part) → ps ≡ parts_from role from cs → StandFrom b from cs → AllByRecursion IsRiff cs → HeadLeft role b from cs 0 ps
none_left role b from cs ps e s r = record { at = from; ds = cs; parts = e; stands = s; riff = r; same = refl }

-- the next one
pub record HeadNext (role : ℕ → Chunk → Role) (b : List ℕ) (from : ℕ) (cs : List Chunk) (n : ℕ) (p : Part) (ps : List Part) : Type 0 where
  pub at : ℕ
  pub chunk : Chunk
  pub is_part : p ≡ part_as (role at chunk) at chunk
  pub stands : StandsAt b at chunk
  pub riff : IsRiff chunk
  pub found : is_hdrl chunk ≡ true → head_from 0 from cs ≡ Some (record { number = n; body = p.body })
  pub later : is_hdrl chunk ≡ false → HeadLeft role b from cs (n + 1) ps

pub head_next : (role : ℕ → Chunk → Role) (b : List ℕ) (from : ℕ) (cs : List Chunk) (parts : List Part) (k : ℕ) → k < length parts → HeadLeft role b from cs k (drop k parts) → HeadNext role b from cs k (get_or parts k no_part) (drop (k + 1) parts)
head_next role b from cs parts k lt left = go left.ds (sym split ∙ left.parts) left.stands left.riff left.same
  where
    split : drop k parts ≡ get_or parts k no_part ∷ drop (k + 1) parts
    split = at_drop_more (λ (ps : List Part). ps) parts k no_part lt

    go : (ds : List Chunk) → get_or parts k no_part ∷ drop (k + 1) parts ≡ parts_from role left.at ds → StandFrom b left.at ds → AllByRecursion IsRiff ds → head_from 0 from cs ≡ head_from k left.at ds
        → HeadNext role b from cs k (get_or parts k no_part) (drop (k + 1) parts)
    go [] e s r same = absurd cc
    go (c ∷ ds) e s r same =
        let is : get_or parts k no_part ≡ part_as (role left.at c) left.at c = cc in
        let rest : drop (k + 1) parts ≡ parts_from role (left.at + length (spell c)) ds = cc in
        record {
          at = left.at;
          chunk = c;
          is_part = is;
          stands = s.0;
          riff = r.0;
          found = λ i.
              same ∙ ap (λ (t : Bool). if t then Some (record { number = k; body = record { at = left.at + 8; len = length c.body } }) else head_from (suc k) (left.at + length (spell c)) ds) i
              ∙ ap (λ (p : Part). Some (record { number = k; body = p.body })) (sym is);
          later = λ i.
              record {
                at = left.at + length (spell c);
                ds = ds;
                parts = rest;
                stands = s.1;
                riff = r.1;
                same = same ∙ ap (λ (t : Bool). if t then Some (record { number = k; body = record { at = left.at + 8; len = length c.body } }) else head_from (suc k) (left.at + length (spell c)) ds) i ∙ ap (λ (n : ℕ). head_from n (left.at + length (spell c)) ds) (omega arith);
              };
        }

pub none_found : (role : ℕ → Chunk → Role) (b : List ℕ) (from : ℕ) (cs : List Chunk) (n : ℕ) → HeadLeft role b from cs n [] → head_from 0 from cs ≡ None
none_found role b from cs n left = go left.ds left.parts left.same
  where
    go : (ds : List Chunk) → [] ≡ parts_from role left.at ds → head_from 0 from cs ≡ head_from n left.at ds → head_from 0 from cs ≡ None
    go [] e same = same
    go (c ∷ ds) e same = absurd cc

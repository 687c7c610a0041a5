-- The parts that a map tells, with what stands in them, are all parts of the chunks.
use Rattle.std.proofs.Common.{◌≡◌, ◌∙◌, ℕ, ◌+◌, ◌-◌, ◌<◌, ◌≤◌, Bool, true, false, List, [], ◌∷◌, ◌++◌, length, take, drop, refl, sym, ap, arith, append_assoc, length-append}
use Rattle.std.specs.Prelude.{codes, if◌then◌else◌, ◌&&◌, nat_le, ◌==◌}
use Rattle.std.specs.Str.{bytes_eq}
use Rattle.std.specs.List.{AllByRecursion}
use Rattle.std.proofs.lemmas.Bool.{and_parts, le-leb, ne_eqb}
use Rattle.std.proofs.lemmas.List.{drop-drop, drop-take, length-take}
use Rattle.part_tree.specs.Names.{whole_ids}
use Rattle.part_tree.specs.declared.part.Part.{Part}
use Rattle.part_tree.specs.declared.part.Role.{Role}
use Rattle.part_tree.specs.declared.part.Role.TheVariants.{Opaque, Padding, Bext, Info, Whole, Essence}
use Rattle.part_tree.proofs.Places.{bytes_same}
use Rattle.part_tree.proofs.Words.{same_length}
use Rattle.container_model.specs.Chunk.{Chunk, Run, ends, chunks, spell, spell_all}
use Rattle.container_model.specs.Sizes.{plain, riff_front}
use Rattle.container_model.specs.Walk.{along}
use Rattle.container_model.specs.Written.{slice}
use Rattle.carrier_model.specs.Info.{is_padding, list_run, one_of, own_size}
use Rattle.carrier_model.proofs.Info.{padding_no_list}
use Rattle.riff_form.specs.Walk.{row}
use Rattle.wave_model.specs.Edited.{ChunkFine}
use Rattle.wave_model.specs.Fields.{is_bext, is_info}
use Rattle.wave_model.specs.Map.{chunk_parts, first_role, later_parts, list_parts, parts_behind, ds64_parts, part}
use Rattle.wave_model.specs.Map as model
use Rattle.wave_model.specs.Wave.{firsts}
use Rattle.wave_model.specs.Why.{is_data}
use Rattle.wave_file.specs.Map.{at_front, is_field, part_as, part_at, role_of, sizes_at}
use Rattle.wave_file.proofs.Roles.{bext_holds}
use Rattle.wave_parts.specs.Opened.{PartEnds, end_after, is_list, opened_part, opened_parts}

-- ---- roles

abbrev file_role : Bool → Bool → Bool → Bool → Bool → Role
file_role l w e d p = if l then Info else (if w then Whole else (if e then Bext else (if d then Essence else (if p then Padding else Opaque))))

abbrev model_role : Bool → Bool → Bool → Bool → Bool → Role
model_role l w e d p = if p then Padding else (if e then Bext else (if l then Info else (if w then Whole else (if d then Essence else Opaque))))

-- padding is nothing else, and bext neither a list nor a whole chunk
record Apart (l w e d p : Bool) : Type 0 where
  no_list : p ≡ true → l ≡ false
  no_whole : p ≡ true → w ≡ false
  no_bext : p ≡ true → e ≡ false
  no_data : p ≡ true → d ≡ false
  bext_no_list : e ≡ true → l ≡ false
  bext_no_whole : e ≡ true → w ≡ false

roles : (l w e d p : Bool) → Apart l w e d p → file_role l w e d p ≡ model_role l w e d p
roles true w e d true h = let no = h.no_list refl in absurd cc
roles false true e d true h = let no = h.no_whole refl in absurd cc
roles false false true d true h = let no = h.no_bext refl in absurd cc
roles false false false true true h = let no = h.no_data refl in absurd cc
roles false false false false true h = refl
roles true w true d false h = let no = h.bext_no_list refl in absurd cc
roles true w false d false h = refl
roles false true true d false h = let no = h.bext_no_whole refl in absurd cc
roles false true false d false h = refl
roles false false true d false h = refl
roles false false false true false h = refl
roles false false false false false h = refl

and_no : (a : Bool) → (a && false) ≡ false
and_no true = refl
and_no false = refl

junk : (c : Chunk) → is_padding c ≡ true → c.id ≡ codes "JUNK"
junk c e = bytes_same c.id (codes "JUNK") (and_parts (own_size c.form) (bytes_eq c.id (codes "JUNK")) e).1

apart : (c : Chunk) → Apart (is_info c) (is_field c) (is_bext c) (is_data c) (is_padding c)
apart c = record {
  no_list = λ e. padding_no_list (codes "INFO") c e;
  no_whole = λ e. ap (λ (x : List ℕ). own_size c.form && one_of whole_ids x) (junk c e) ∙ and_no (own_size c.form);
  no_bext = λ e. ap (λ (x : List ℕ). own_size c.form && bytes_eq (codes "bext") x) (junk c e) ∙ and_no (own_size c.form);
  no_data = λ e. ap (λ (x : List ℕ). bytes_eq (codes "data") x) (junk c e);
  bext_no_list = λ e. (bext_holds c e).list_is;
  bext_no_whole = λ e. (bext_holds c e).whole_is;
}

same_role : (c : Chunk) → role_of c ≡ model.role_of c
same_role c = roles (is_info c) (is_field c) (is_bext c) (is_data c) (is_padding c) (apart c)

front_far : (at : ℕ) (r : Role) → 12 < at → at_front at r ≡ r
front_far at Padding lt = ap (λ (t : Bool). if t then Opaque else Padding) (ne_eqb at 12 (λ e. absurd (omega arith)))
front_far at other lt = refl

front_first : (c : Chunk) → at_front 12 (role_of c) ≡ first_role c
front_first c = ap (at_front 12) (same_role c) ∙ go (is_padding c) (is_bext c) (is_info c) (is_field c) (is_data c)
  where
    go : (p e l w d : Bool) → at_front 12 (model_role l w e d p) ≡ (if p then Opaque else model_role l w e d p)
    go true e l w d = refl
    go false true l w d = refl
    go false false true w d = refl
    go false false false true d = refl
    go false false false false true = refl
    go false false false false false = refl

front_list : (at : ℕ) (r : Role) → is_list (at_front at r) ≡ is_list r
front_list at Padding = go (at == 12)
  where
    go : (t : Bool) → is_list (if t then Opaque else Padding) ≡ false
    go true = refl
    go false = refl
front_list at other = refl

role_lists : (at : ℕ) (c : Chunk) → is_list (at_front at (role_of c)) ≡ is_info c
role_lists at c = front_list at (role_of c) ∙ go (is_info c) (is_field c) (is_bext c) (is_data c) (is_padding c)
  where
    go : (l w e d p : Bool) → is_list (file_role l w e d p) ≡ l
    go true w e d p = refl
    go false true e d p = refl
    go false false true d p = refl
    go false false false true p = refl
    go false false false false true = refl
    go false false false false false = refl

-- ---- one chunk that stands in a file

pub record Home (b : List ℕ) (at : ℕ) (c : Chunk) : Type 0 where
  pub body : c.body ≡ slice b (at + 8) (length c.body)
  pub long : 8 ≤ length (spell c)

abbrev pub HomeFrom : List ℕ → ℕ → List Chunk → Type 0
HomeFrom b at [] = Unit {0}
HomeFrom b at (c ∷ cs) = Home b at c × HomeFrom b (at + length (spell c)) cs

info_long : (c : Chunk) → is_info c ≡ true → 4 ≤ length c.body
info_long c e =
    let type = (and_parts (bytes_eq c.id (codes "LIST")) (bytes_eq (take 4 c.body) (codes "INFO")) (and_parts (own_size c.form) _ e).1).1 in
    omega (arith, same_length (take 4 c.body) (codes "INFO") type, length-take 4 c.body)

list_here : (b : List ℕ) (at : ℕ) (c : Chunk) → Home b at c → 4 ≤ length c.body → row b (at + 8 + 4) (at + 8 + length c.body) ≡ list_run c
list_here b at c h long =
    let n = length c.body in
    let split : n ≡ 4 + (n - 4) = omega arith in
    let len : (at + 8 + n) - (at + 8 + 4) ≡ n - 4 = omega arith in
    let rest : drop 4 c.body ≡ take (n - 4) (drop (at + 8 + 4) b)
    = ap (drop 4) h.body ∙ ap (λ (k : ℕ). drop 4 (take k (drop (at + 8) b))) split ∙ drop-take 4 (n - 4) (drop (at + 8) b) ∙ ap (take (n - 4)) (drop-drop 4 (at + 8) b) in
    ap (λ (k : ℕ). chunks riff_front plain (take k (drop (at + 8 + 4) b))) len ∙ ap (chunks riff_front plain) (sym rest)

chunk_opened : (b : List ℕ) (at : ℕ) (c : Chunk) (r : Role) → Home b at c → is_list r ≡ is_info c → opened_part b (part_as r at c) ≡ chunk_parts r at c
chunk_opened b at c r h same = go (is_info c) refl
  where
    p : Part
    p = part_as r at c

    n : ℕ
    n = length c.body

    run : Run
    run = row b (at + 8 + 4) (at + 8 + length c.body)

    go : (t : Bool) → is_info c ≡ t → part_as r at c ∷ (if is_list r && nat_le 4 (length c.body) then list_parts (at + 8 + 4) (row b (at + 8 + 4) (at + 8 + length c.body)) else [])
        ≡ part_as r at c ∷ (if t then list_parts (at + 12) (list_run c) else [])
    go true e =
        let long = info_long c e in
        let place : at + 8 + 4 ≡ at + 12 = omega arith in
        ap (λ (t : Bool). part_as r at c ∷ (if t && nat_le 4 (length c.body) then list_parts (at + 8 + 4) (row b (at + 8 + 4) (at + 8 + length c.body)) else [])) (same ∙ e)
        ∙ ap (λ (t : Bool). part_as r at c ∷ (if t then list_parts (at + 8 + 4) (row b (at + 8 + 4) (at + 8 + length c.body)) else [])) (le-leb 4 (length c.body) long)
        ∙ ap (λ (x : Run). part_as r at c ∷ list_parts (at + 8 + 4) x) (list_here b at c h long)
        ∙ ap (λ (q : ℕ). part_as r at c ∷ list_parts q (list_run c)) place
    go false e = ap (λ (t : Bool). part_as r at c ∷ (if t && nat_le 4 (length c.body) then list_parts (at + 8 + 4) (row b (at + 8 + 4) (at + 8 + length c.body)) else [])) (same ∙ e)

chunk_ends : (b : List ℕ) (at : ℕ) (c : Chunk) (r : Role) → Home b at c → is_list r ≡ is_info c → (is_info c ≡ true → (list_run c).stop ≡ ends) → PartEnds b (part_as r at c)
chunk_ends b at c r h same whole e =
    let is : is_info c ≡ true = sym same ∙ (and_parts (is_list r) (nat_le 4 (length c.body)) e).0 in
    ap (λ (x : Run). x.stop) (list_here b at c h (info_long c is)) ∙ whole is

-- ---- chunks one after the other

later_opened : (b : List ℕ) (at : ℕ) (cs : List Chunk) → 12 < at → HomeFrom b at cs → opened_parts b (along part_at at cs) ≡ later_parts at cs
later_opened b at [] lt h = refl
later_opened b at (c ∷ cs) lt h =
    let next = at + length (spell c) in
    let own : at_front at (role_of c) ≡ model.role_of c = front_far at (role_of c) lt ∙ same_role c in
    ap (λ (x : List Part). x ++ opened_parts b (along part_at next cs)) (chunk_opened b at c (at_front at (role_of c)) h.0 (role_lists at c))
    ∙ ap (λ (r : Role). chunk_parts r at c ++ opened_parts b (along part_at next cs)) own
    ∙ ap (λ (x : List Part). chunk_parts (model.role_of c) at c ++ x) (later_opened b next cs (omega arith) h.1)

-- by whether ds64 stands before them
pub behind_opened : (b : List ℕ) (ds : List Chunk) (at : ℕ) (cs : List Chunk) → (ds ≡ [] → at ≡ 12) → ((d : Chunk) (es : List Chunk) → ds ≡ d ∷ es → 12 < at) → HomeFrom b at cs → opened_parts b (along part_at at cs) ≡ parts_behind ds at cs
behind_opened b [] at [] first later h = refl
behind_opened b [] at (c ∷ cs) first later h =
    let next = at + length (spell c) in
    let here : at ≡ 12 = first refl in
    let own : at_front at (role_of c) ≡ first_role c = ap (λ (q : ℕ). at_front q (role_of c)) here ∙ front_first c in
    ap (λ (x : List Part). x ++ opened_parts b (along part_at next cs)) (chunk_opened b at c (at_front at (role_of c)) h.0 (role_lists at c))
    ∙ ap (λ (r : Role). chunk_parts r at c ++ opened_parts b (along part_at next cs)) own
    ∙ ap (λ (x : List Part). chunk_parts (first_role c) at c ++ x) (later_opened b next cs (omega (arith, (h.0).long)) h.1)
behind_opened b (d ∷ ds) at cs first later h = later_opened b at cs (later d ds refl) h

pub all_end : (b : List ℕ) (at : ℕ) (cs : List Chunk) → HomeFrom b at cs → AllByRecursion ChunkFine cs → AllByRecursion (PartEnds b) (along part_at at cs)
all_end b at [] h fine = tt
all_end b at (c ∷ cs) h fine = (chunk_ends b at c (at_front at (role_of c)) h.0 (role_lists at c) (fine.0).list_ends, all_end b (at + length (spell c)) cs h.1 fine.1)

-- ---- ds64

pub ds64_opened : (b : List ℕ) (t : Bool) (cs : List Chunk) → opened_parts b (along sizes_at 12 (firsts t cs)) ≡ ds64_parts (firsts t cs)
ds64_opened b true [] = refl
ds64_opened b true (c ∷ cs) = refl
ds64_opened b false cs = refl

pub ds64_ends : (b : List ℕ) (t : Bool) (cs : List Chunk) → AllByRecursion (PartEnds b) (along sizes_at 12 (firsts t cs))
ds64_ends b true [] = tt
ds64_ends b true (c ∷ cs) = ((λ e. absurd cc), tt)
ds64_ends b false cs = tt

-- ---- several

pub opened_append : (b : List ℕ) (ps qs : List Part) → opened_parts b (ps ++ qs) ≡ opened_parts b ps ++ opened_parts b qs
opened_append b [] qs = refl
opened_append b (p ∷ ps) qs = ap (λ (x : List Part). opened_part b p ++ x) (opened_append b ps qs) ∙ sym (append_assoc (opened_part b p) (opened_parts b ps) (opened_parts b qs))

pub each_append : (P : Part → Type 0) (ps qs : List Part) → AllByRecursion P ps → AllByRecursion P qs → AllByRecursion P (ps ++ qs)
each_append P [] qs h k = k
each_append P (p ∷ ps) qs h k = (h.0, each_append P ps qs h.1 k)

pub end_append : (at : ℕ) (ps qs : List Part) → end_after at (ps ++ qs) ≡ end_after (end_after at ps) qs
end_append at [] qs = refl
end_append at (p ∷ ps) qs = end_append p.next ps qs

pub end_along : (role : ℕ → Chunk → Role) (at : ℕ) (cs : List Chunk) → end_after at (along (λ p c. part_as (role p c) p c ∷ []) at cs) ≡ at + length (spell_all cs)
end_along role at [] = omega arith
end_along role at (c ∷ cs) = end_along role (at + length (spell c)) cs ∙ omega (arith, length-append (spell c) (spell_all cs))

-- The tests of the atoms in moov fail exactly where these atoms are fine.
use Rattle.std.proofs.Common.{◌≡◌, ℕ, suc, ◌+◌, ◌^◌, ◌<◌, ◌≤◌, Bool, true, false, cond, ltb, List, [], ◌∷◌, ◌++◌, length, map, take, Some, None, refl, sym, ap, subst, ◌∙◌, arith}
use Rattle.std.specs.Prelude.{◌&&◌, ◌||◌, not, codes}
use Rattle.std.specs.List.{flat_map, AllByRecursion}
use Rattle.std.proofs.lemmas.Bool.{leb-false, ltb-false, le-ltb, lt-leb}
use Rattle.container_model.specs.Chunk.{Chunk, spell, spell_all, ends}
use Rattle.container_model.specs.Deep.{Whole, Leaf}
use Rattle.container_model.specs.Units.{solids}
use Rattle.container_model.specs.Walk.{Step, chunk_at, end_at, body_at, walk, nested}
use Rattle.container_model.proofs.Items.{same_true}
use Rattle.container_model.proofs.Walk.{OfLeaf, Sound, sound_from, sound_to, walk_nested, nested_leaves}
use Rattle.mov_model.specs.Atoms.{Place, file, user_data, moov, trak, mdia, minf, stbl, dinf, opens, format, is_padding}
use Rattle.container_model.specs.Atoms.{is, is_listed}
use Rattle.qt_text.specs.User.{udta}
use Rattle.mov_model.specs.Tables.{in_stbl, in_dinf, tables, references}
use Rattle.sample_tables.specs.Tables.{is_short_table, is_other_offsets, is_short_reference, is_external}
use Rattle.mov_model.specs.Parts.{first_user, track_of}
use Rattle.mov_model.specs.Reading.{row, kid_steps, inside_steps, atoms_met, names, names_of, no_twice}
use Rattle.mov_model.specs.Support.{is_refused}
use Rattle.mov_model.specs.Why.{moov_id, met_user}
use Rattle.mov_model.proofs.Again.{all_strip}
use Rattle.mov_model.proofs.Carry.{first_solids, strip}
use Rattle.mov_model.proofs.Cells.{is_user, user_sort}
use Rattle.mov_model.proofs.Clauses.{all_tracks, all_solids}
use Rattle.mov_model.proofs.Steps.{Good, back, good_parts, parts_good, met_both, met_back, met_row, listed_back, bad_none, user_good, good_user, low_prefix, AtomFine, StepFine, step_names, track_good, good_track, inner, walk_kid, inner_track, track_ids}
use Rattle.container_model.proofs.Tests.{guard, guarded, stop_ends}

-- ---- one atom of moov

-- an atom that isn't refused, and a track in which all is fine
abbrev pub KidOk : Chunk → Type 0
KidOk c = (is_refused c ≡ false) × (Sound format AtomFine low_prefix 5 moov c × (no_twice [] (names c) ≡ true))

-- the first user data
abbrev pub UserOk : Chunk → Type 0
UserOk c = (length c.body ≤ 2 ^ 24) × ((udta.opening c).stop ≡ ends)

abbrev pub KidFine : Bool → Chunk → Type 0
KidFine true c = UserOk c
KidFine false c = KidOk c

refused_not : (a b d : Bool) → (a || (b || d)) ≡ false → (a ≡ false) × ((b ≡ false) × (d ≡ false))
refused_not true b d e = absurd cc
refused_not false true d e = absurd cc
refused_not false false d e = (refl, (refl, e))

not_refused : (a b d : Bool) → a ≡ false → b ≡ false → d ≡ false → (a || (b || d)) ≡ false
not_refused a b d e i j = rw (e, i, j) refl

user_refused : (c : Chunk) → udta.is c ≡ true → is_refused c ≡ false
user_refused c u = rw (same_true c.id (codes "udta") u) refl

names_inner : (at : ℕ) (c : Chunk) → names c ≡ step_names (inner at c)
names_inner at c =
    ap (flat_map names_of) (sym (walk_nested format 5 moov at c)) ∙ ap (λ (ss : List (Step Place)). step_names ss) (walk_kid at c)

-- the atom is no first user data: it isn't opened, or it isn't user data
first_by : (seen u : Bool) → (not seen && u) ≡ false → (big : Bool) → (u && (not seen && big)) ≡ false
first_by true true e big = refl
first_by true false e big = refl
first_by false true e big = absurd cc
first_by false false e big = refl

first_is : (seen u : Bool) → (not seen && u) ≡ true → (seen ≡ false) × (u ≡ true)
first_is true u e = absurd cc
first_is false u e = (refl, e)

kid_good : (b : Bool) (at : ℕ) (c : Chunk) (before : List (Step Place)) → (not (met_user before) && udta.is c) ≡ b → atoms_met before ≤ 65536 → Good before (kid_steps b at c)
    → (atoms_met (kid_steps b at c) + atoms_met before ≤ 65536) × KidFine b c
kid_good true at c before e low h =
    let less : atoms_met before < 65536 = leb-false _ _ h.0 in
    let f = first_is (met_user before) (udta.is c) e in
    let before1 = chunk_at moov at c ∷ before in
    let kids = (udta.opening c).chunks in
    let q = good_parts before1 (row user_data (body_at at c) kids) _ h.1.1.1.1.1 in
    let n = user_good kids (body_at at c) before1 (omega arith) q.0 in
    let big = ltb (2 ^ 24) (length c.body) in
    let fresh : not (met_user before) ≡ true = ap not f.0 in
    let small : length c.body ≤ 2 ^ 24 = ltb-false _ _ (guarded (not (met_user before)) big (guarded (udta.is c) (not (met_user before) && big) h.1.1.1.1.0 f.1) fresh) in
    (omega (arith, n, met_row user_data kids (body_at at c), met_both (row user_data (body_at at c) kids) (end_at user_data (body_at at c + length (spell_all kids)) (udta.opening c).stop ∷ [])), (small, stop_ends (udta.opening c).stop q.1.1.0))
kid_good false at c before e low h =
    let g : Good before (chunk_at moov at c ∷ inner at c) = subst (Good before) (walk_kid at c) h in
    let less : atoms_met before < 65536 = leb-false _ _ g.0 in
    let t = track_good (inner at c) (chunk_at moov at c ∷ before) (inner_track at c) (omega arith) g.1.1.1.1.1 in
    let refused = not_refused _ _ _ g.1.0 g.1.1.0 g.1.1.1.0 in
    let steps : AllByRecursion StepFine (walk format 5 moov at c) = subst (AllByRecursion StepFine) (sym (walk_kid at c)) ((refl, (refl, refl)), t.1.1) in
    let same : atoms_met (walk format 5 moov at c) ≡ suc (atoms_met (inner at c)) = ap atoms_met (walk_kid at c) in
    (omega (arith, t.0, same), (refused, (sound_from format AtomFine low_prefix 5 moov at c steps, ap (no_twice []) (names_inner at c) ∙ t.1.0)))

good_kid : (b : Bool) (at : ℕ) (c : Chunk) (before : List (Step Place)) → (not (met_user before) && udta.is c) ≡ b → atoms_met (kid_steps b at c) + atoms_met before ≤ 65536 → KidFine b c → Good before (kid_steps b at c)
good_kid true at c before e low h =
    let f = first_is (met_user before) (udta.is c) e in
    let before1 = chunk_at moov at c ∷ before in
    let kids = (udta.opening c).chunks in
    let last = end_at user_data (body_at at c + length (spell_all kids)) (udta.opening c).stop ∷ [] in
    let r = refused_not (is c (codes "cmov")) (is c (codes "rmra")) (is c (codes "mvex")) (user_refused c f.1) in
    let len = met_both (row user_data (body_at at c) kids) last in
    let b = bad_none (udta.opening c).stop h.1 in (
      lt-leb 65536 (atoms_met before) (omega arith),
      (r.0, (r.1.0, (r.1.1, (guard (udta.is c) (not (met_user before) && ltb (2 ^ 24) (length c.body)) (λ i. guard (not (met_user before)) (ltb (2 ^ 24) (length c.body)) (λ j. le-ltb (2 ^ 24) (length c.body) h.0)), parts_good before1 (row user_data (body_at at c) kids) last (good_user kids (body_at at c) before1 (omega (arith, low, len, met_row user_data kids (body_at at c)))) (b.0, (b.1, tt)))))),
    )
good_kid false at c before e low h =
    let same : atoms_met (walk format 5 moov at c) ≡ suc (atoms_met (inner at c)) = ap atoms_met (walk_kid at c) in
    let steps : AllByRecursion StepFine (chunk_at moov at c ∷ inner at c) = subst (AllByRecursion StepFine) (walk_kid at c) (sound_to format AtomFine low_prefix 5 moov at c h.1.0) in
    let r = refused_not (is c (codes "cmov")) (is c (codes "rmra")) (is c (codes "mvex")) h.0 in
    let t = good_track (inner at c) (chunk_at moov at c ∷ before) (inner_track at c) (omega (arith, low, same), (ap (no_twice []) (sym (names_inner at c)) ∙ h.1.1, steps.1)) in
    subst (Good before) (sym (walk_kid at c)) (lt-leb 65536 (atoms_met before) (omega (arith, same)), (r.0, (r.1.0, (r.1.1, (first_by (met_user before) (udta.is c) e (ltb (2 ^ 24) (length c.body)), t)))))

-- ---- all atoms of moov

abbrev pub KidsFine : Bool → List Chunk → Type 0
KidsFine seen [] = Unit {0}
KidsFine seen (c ∷ cs) = KidFine (not seen && udta.is c) c × KidsFine (seen || udta.is c) cs

row_ids : (cs : List Chunk) (at : ℕ) (ss : List (Step Place)) → flat_map moov_id (row user_data at cs ++ ss) ≡ flat_map moov_id ss
row_ids [] at ss = refl
row_ids (c ∷ cs) at ss = row_ids cs (at + length (spell c)) ss

kid_ids : (b : Bool) (at : ℕ) (c : Chunk) → flat_map moov_id (kid_steps b at c) ≡ c.id ∷ []
kid_ids true at c = ap (λ (x : List (List ℕ)). c.id ∷ x) (row_ids (udta.opening c).chunks (body_at at c) (end_at user_data (body_at at c + length (spell_all (udta.opening c).chunks)) (udta.opening c).stop ∷ []))
kid_ids false at c = ap (flat_map moov_id) (walk_kid at c) ∙ ap (λ (x : List (List ℕ)). c.id ∷ x) (track_ids (inner at c) (inner_track at c))

user_met : (seen b : Bool) (at : ℕ) (c : Chunk) (before : List (Step Place)) → met_user before ≡ seen → met_user (back (kid_steps b at c) before) ≡ (seen || udta.is c)
user_met seen b at c before e =
    listed_back moov_id (codes "udta") (kid_steps b at c) before ∙ ap (λ (x : List (List ℕ)). is_listed (codes "udta") x || met_user before) (kid_ids b at c) ∙ swap (udta.is c) seen (met_user before) e
  where
    swap : (u seen m : Bool) → m ≡ seen → ((u || false) || m) ≡ (seen || u)
    swap true true m e = refl
    swap true false m e = refl
    swap false true m e = e
    swap false false m e = e

pub kids_good : (cs : List Chunk) (seen : Bool) (at : ℕ) (before : List (Step Place)) → met_user before ≡ seen → atoms_met before ≤ 65536 → Good before (inside_steps seen at cs)
    → (atoms_met (inside_steps seen at cs) + atoms_met before ≤ 65536) × KidsFine seen cs
kids_good [] seen at before e low h = (omega arith, tt)
kids_good (c ∷ cs) seen at before e low h =
    let b = not seen && udta.is c in
    let more = inside_steps (seen || udta.is c) (at + length (spell c)) cs in
    let p = good_parts before (kid_steps b at c) more h in
    let k = kid_good b at c before (ap (λ (t : Bool). not t && udta.is c) e) low p.0 in
    let len = met_back (kid_steps b at c) before in
    let again = kids_good cs (seen || udta.is c) (at + length (spell c)) (back (kid_steps b at c) before) (user_met seen b at c before e) (omega (arith, len, k.0)) p.1 in
    (omega (arith, again.0, len, met_both (kid_steps b at c) more), (k.1, again.1))

pub good_kids : (cs : List Chunk) (seen : Bool) (at : ℕ) (before : List (Step Place)) → met_user before ≡ seen → atoms_met (inside_steps seen at cs) + atoms_met before ≤ 65536 → KidsFine seen cs → Good before (inside_steps seen at cs)
good_kids [] seen at before e low h = tt
good_kids (c ∷ cs) seen at before e low h =
    let b = not seen && udta.is c in
    let more = inside_steps (seen || udta.is c) (at + length (spell c)) cs in
    let both = met_both (kid_steps b at c) more in
    let len = met_back (kid_steps b at c) before in
    parts_good before (kid_steps b at c) more (good_kid b at c before (ap (λ (t : Bool). not t && udta.is c) e) (omega (arith, low, both)) h.0)
    (good_kids cs (seen || udta.is c) (at + length (spell c)) (back (kid_steps b at c) before) (user_met seen b at c before e) (omega (arith, low, both, len)) h.1)

-- ---- the first user data apart

-- what is no track has nothing in it
plain_ok : (c : Chunk) → is c (codes "trak") ≡ false → is_refused c ≡ false → KidOk c
unfolding Whole nested
plain_ok c n r =
    let none : opens moov c.id (take 4 c.body) ≡ None = rw n refl in
    (r, ((rw n tt, rw n ((refl, (refl, refl)), tt)), rw n refl))

fine_ok : (seen : Bool) (cs : List Chunk) → KidsFine seen cs → AllByRecursion KidOk cs × (seen ≡ false → AllByRecursion UserOk (first_user cs))
fine_ok seen [] h = (tt, λ e. tt)
fine_ok seen (c ∷ cs) h = go seen (udta.is c) refl h.0 (fine_ok (seen || udta.is c) cs h.1)
  where
    go : (seen u : Bool) → udta.is c ≡ u → KidFine (not seen && u) c → AllByRecursion KidOk cs × ((seen || u) ≡ false → AllByRecursion UserOk (first_user cs))
        → (KidOk c × AllByRecursion KidOk cs) × (seen ≡ false → AllByRecursion UserOk (cond u (c ∷ []) (first_user cs)))
    go true u i k again = ((k, again.0), λ e. absurd cc)
    go false true i k again = ((plain_ok c (user_sort.no_track c i) (user_refused c i), again.0), λ e. (k, tt))
    go false false i k again = ((k, again.0), again.1)

ok_fine : (seen : Bool) (cs : List Chunk) → AllByRecursion KidOk cs → (seen ≡ false → AllByRecursion UserOk (first_user cs)) → KidsFine seen cs
ok_fine seen [] h u = tt
ok_fine seen (c ∷ cs) h u = go seen (udta.is c) h.0 u (λ s g. ok_fine s cs h.1 g)
  where
    go : (seen t : Bool) → KidOk c → (seen ≡ false → AllByRecursion UserOk (cond t (c ∷ []) (first_user cs))) → ((s : Bool) → (s ≡ false → AllByRecursion UserOk (first_user cs)) → KidsFine s cs)
        → KidFine (not seen && t) c × KidsFine (seen || t) cs
    go true t k u again = (k, again true (λ e. absurd cc))
    go false true k u again = ((u refl).0, again true (λ e. absurd cc))
    go false false k u again = (k, again false u)

-- ---- padding is not looked at

strip_ok : (c : Chunk) → KidOk c → KidOk (strip c)
unfolding Whole nested
strip_ok c h = h

ok_strip : (c : Chunk) → KidOk (strip c) → KidOk c
unfolding Whole nested
ok_strip c h = h

padding_ok : (c : Chunk) → is_padding c.id ≡ true → KidOk c
padding_ok c e = plain_ok c (other (is c (codes "trak")) (λ i. rw (same_true c.id (codes "trak") i) refl)) (other (is_refused c) (λ i. refused i))
  where
    -- an identifier of padding is no other one
    other : (t : Bool) → (t ≡ true → is_padding c.id ≡ false) → t ≡ false
    other true n = let no : is_padding c.id ≡ false = n refl in absurd cc
    other false n = refl

    refused : is_refused c ≡ true → is_padding c.id ≡ false
    refused i = go (is c (codes "cmov")) (is c (codes "rmra")) refl refl i
      where
        go : (t u : Bool) → is c (codes "cmov") ≡ t → is c (codes "rmra") ≡ u → (t || (u || is c (codes "mvex"))) ≡ true → is_padding c.id ≡ false
        go true u a b i = rw (same_true c.id (codes "cmov") a) refl
        go false true a b i = rw (same_true c.id (codes "rmra") b) refl
        go false false a b i = rw (same_true c.id (codes "mvex") i) refl

solid_ok : (cs : List Chunk) → AllByRecursion KidOk (solids is_padding cs) → AllByRecursion KidOk cs
solid_ok [] h = tt
solid_ok (c ∷ cs) h = go (is_padding c.id) refl h (solid_ok cs)
  where
    go : (t : Bool) → is_padding c.id ≡ t → AllByRecursion KidOk (cond t [] (strip c ∷ []) ++ solids is_padding cs) → (AllByRecursion KidOk (solids is_padding cs) → AllByRecursion KidOk cs) → AllByRecursion KidOk (c ∷ cs)
    go true e h again = (padding_ok c e, again h)
    go false e h again = (ok_strip c h.0, again h.1)

strip_all : (cs : List Chunk) → AllByRecursion UserOk cs → AllByRecursion UserOk (map strip cs)
strip_all [] h = tt
strip_all (c ∷ cs) h = (h.0, strip_all cs h.1)

-- ---- tracks

-- a track in which all is fine, but for the places of its chunks
pub record TrackOk (t : Chunk) : Type 0 where
  pub once : no_twice [] (names t) ≡ true
  pub no_other_offsets : AllByRecursion (λ c. is_other_offsets c ≡ false) (tables t)
  pub long_tables : AllByRecursion (λ c. is_short_table c ≡ false) (tables t)
  pub long_references : AllByRecursion (λ c. is_short_reference c ≡ false) (references t)
  pub local : AllByRecursion (λ c. is_external c ≡ false) (references t)

abbrev LeafFine : Leaf Place → Type 0
LeafFine l = OfLeaf format AtomFine low_prefix l

abbrev TableOk : Chunk → Type 0
TableOk c = (is_other_offsets c ≡ false) × (is_short_table c ≡ false)

abbrev ReferenceOk : Chunk → Type 0
ReferenceOk c = (is_short_reference c ≡ false) × (is_external c ≡ false)

abbrev leaf_tables : List (Leaf Place) → List Chunk
leaf_tables ls = flat_map (λ (l : Leaf Place). in_stbl l.place l.chunk) ls

abbrev leaf_references : List (Leaf Place) → List Chunk
leaf_references ls = flat_map (λ (l : Leaf Place). in_dinf l.place l.chunk) ls

leaves_ok : (ls : List (Leaf Place)) → AllByRecursion LeafFine ls → AllByRecursion TableOk (leaf_tables ls) × AllByRecursion ReferenceOk (leaf_references ls)
leaves_ok [] h = (tt, tt)
leaves_ok (l ∷ ls) h = go l.place h.0 (leaves_ok ls h.1)
  where
    go : (p : Place) → AtomFine p l.chunk → AllByRecursion TableOk (leaf_tables ls) × AllByRecursion ReferenceOk (leaf_references ls)
        → AllByRecursion TableOk (in_stbl p l.chunk ++ leaf_tables ls) × AllByRecursion ReferenceOk (in_dinf p l.chunk ++ leaf_references ls)
    go file f again = again
    go user_data f again = again
    go moov f again = again
    go trak f again = again
    go mdia f again = again
    go minf f again = again
    go stbl f again = (((f.0, f.1.0), again.0), again.1)
    go dinf f again = (again.0, ((f.1.0, f.1.1), again.1))

ok_leaves : (ls : List (Leaf Place)) → AllByRecursion TableOk (leaf_tables ls) → AllByRecursion ReferenceOk (leaf_references ls) → AllByRecursion LeafFine ls
ok_leaves [] t r = tt
ok_leaves (l ∷ ls) t r = go l.place t r (ok_leaves ls)
  where
    go : (p : Place) → AllByRecursion TableOk (in_stbl p l.chunk ++ leaf_tables ls) → AllByRecursion ReferenceOk (in_dinf p l.chunk ++ leaf_references ls)
        → (AllByRecursion TableOk (leaf_tables ls) → AllByRecursion ReferenceOk (leaf_references ls) → AllByRecursion LeafFine ls) → AtomFine p l.chunk × AllByRecursion LeafFine ls
    go file t r again = ((refl, (refl, refl)), again t r)
    go user_data t r again = ((refl, (refl, refl)), again t r)
    go moov t r again = ((refl, (refl, refl)), again t r)
    go trak t r again = ((refl, (refl, refl)), again t r)
    go mdia t r again = ((refl, (refl, refl)), again t r)
    go minf t r again = ((refl, (refl, refl)), again t r)
    go stbl t r again = ((t.0.0, (t.0.1, refl)), again t.1 r)
    go dinf t r again = ((refl, (r.0.0, r.0.1)), again t r.1)

stbl_closed : (p q : Place) (c : Chunk) → opens p c.id (take 4 c.body) ≡ Some q → in_stbl p c ≡ []
stbl_closed file q c e = refl
stbl_closed user_data q c e = refl
stbl_closed moov q c e = refl
stbl_closed trak q c e = refl
stbl_closed mdia q c e = refl
stbl_closed minf q c e = refl
stbl_closed stbl q c e = absurd cc
stbl_closed dinf q c e = refl

dinf_closed : (p q : Place) (c : Chunk) → opens p c.id (take 4 c.body) ≡ Some q → in_dinf p c ≡ []
dinf_closed file q c e = refl
dinf_closed user_data q c e = refl
dinf_closed moov q c e = refl
dinf_closed trak q c e = refl
dinf_closed mdia q c e = refl
dinf_closed minf q c e = refl
dinf_closed stbl q c e = refl
dinf_closed dinf q c e = absurd cc

all_map : (P Q : Chunk → Type 0) → ((c : Chunk) → P c → Q c) → (cs : List Chunk) → AllByRecursion P cs → AllByRecursion Q cs
all_map P Q f [] h = tt
all_map P Q f (c ∷ cs) h = (f c h.0, all_map P Q f cs h.1)

pub track_from : (t : Chunk) → KidOk t → TrackOk t
track_from t h =
    let l = leaves_ok (nested format 5 moov t) h.1.0.1 in
    let ts : AllByRecursion TableOk (tables t) = subst (AllByRecursion TableOk) (nested_leaves format in_stbl stbl_closed 5 moov t) l.0 in
    let rs : AllByRecursion ReferenceOk (references t) = subst (AllByRecursion ReferenceOk) (nested_leaves format in_dinf dinf_closed 5 moov t) l.1 in
    record {
      once = h.1.1;
      no_other_offsets = all_map TableOk (λ c. is_other_offsets c ≡ false) (λ c x. x.0) (tables t) ts;
      long_tables = all_map TableOk (λ c. is_short_table c ≡ false) (λ c x. x.1) (tables t) ts;
      long_references = all_map ReferenceOk (λ c. is_short_reference c ≡ false) (λ c x. x.0) (references t) rs;
      local = all_map ReferenceOk (λ c. is_external c ≡ false) (λ c x. x.1) (references t) rs;
    }

all_two : (P Q : Chunk → Type 0) (cs : List Chunk) → AllByRecursion P cs → AllByRecursion Q cs → AllByRecursion (λ c. P c × Q c) cs
all_two P Q [] h g = tt
all_two P Q (c ∷ cs) h g = ((h.0, g.0), all_two P Q cs h.1 g.1)

from_track : (t : Chunk) → is_refused t ≡ false → Whole format 5 moov t → TrackOk t → KidOk t
from_track t r w h =
    let ts = all_two (λ c. is_other_offsets c ≡ false) (λ c. is_short_table c ≡ false) (tables t) h.no_other_offsets h.long_tables in
    let rs = all_two (λ c. is_short_reference c ≡ false) (λ c. is_external c ≡ false) (references t) h.long_references h.local in
    let l = ok_leaves (nested format 5 moov t) (subst (AllByRecursion TableOk) (sym (nested_leaves format in_stbl stbl_closed 5 moov t)) ts) (subst (AllByRecursion ReferenceOk) (sym (nested_leaves format in_dinf dinf_closed 5 moov t)) rs) in
    (r, ((w, l), h.once))

-- what is asked of the atoms of moov
pub record KidsAre (ps : List Chunk) : Type 0 where
  pub not_refused : AllByRecursion (λ c. is_refused c ≡ false) ps
  pub whole : AllByRecursion (Whole format 5 moov) ps
  pub tracks : AllByRecursion TrackOk (flat_map track_of ps)
  pub user : AllByRecursion UserOk (first_user ps)

kids_from : (ps : List Chunk) → AllByRecursion KidOk ps → AllByRecursion UserOk (first_user ps) → KidsAre ps
kids_from ps h u = record {
  not_refused = all_map KidOk (λ c. is_refused c ≡ false) (λ c x. x.0) ps h;
  whole = all_map KidOk (Whole format 5 moov) (λ c x. x.1.0.0) ps h;
  tracks = all_map KidOk TrackOk track_from (flat_map track_of ps) (all_tracks KidOk ps h);
  user = u;
}

kids_to : (ps : List Chunk) → AllByRecursion (λ c. is_refused c ≡ false) ps → AllByRecursion (Whole format 5 moov) ps → AllByRecursion TrackOk (flat_map track_of ps) → AllByRecursion KidOk ps
kids_to [] r w t = tt
kids_to (c ∷ ps) r w t = go (is c (codes "trak")) refl t (kids_to ps r.1 w.1)
  where
    go : (b : Bool) → is c (codes "trak") ≡ b → AllByRecursion TrackOk (cond b (c ∷ []) [] ++ flat_map track_of ps) → (AllByRecursion TrackOk (flat_map track_of ps) → AllByRecursion KidOk ps) → AllByRecursion KidOk (c ∷ ps)
    go true e t again = (from_track c r.0 w.0 t.0, again t.1)
    go false e t again = (plain_ok c e r.0, again t)

pub kids_are : (cs : List Chunk) → KidsFine false cs → KidsAre (solids is_padding cs)
kids_are cs h =
    let f = fine_ok false cs h in
    kids_from (solids is_padding cs) (all_solids KidOk strip_ok cs f.0) (subst (AllByRecursion UserOk) (sym (first_solids is_user user_sort cs)) (strip_all (first_user cs) (f.1 refl)))

pub are_kids : (cs : List Chunk) → KidsAre (solids is_padding cs) → KidsFine false cs
are_kids cs h =
    ok_fine false cs (solid_ok cs (kids_to (solids is_padding cs) h.not_refused h.whole h.tracks)) (λ e. all_strip UserOk (λ c x. x) (first_user cs) (subst (AllByRecursion UserOk) (first_solids is_user user_sort cs) h.user))

-- each of them is fine
pub kids_ok : (cs : List Chunk) → KidsAre (solids is_padding cs) → AllByRecursion KidOk cs
kids_ok cs h = solid_ok cs (kids_to (solids is_padding cs) h.not_refused h.whole h.tracks)

-- What is met in the atoms of `moov`: how many atoms, and those in which tables stand.
use Rattle.std.proofs.Common.{◌≡◌, ◌∙◌, ℕ, zero, suc, ◌+◌, ◌-◌, ◌≤◌, ◌<◌, Bool, true, false, List, [], ◌∷◌, ◌++◌, length, take, drop, get_or, refl, sym, ap, subst, arith, append_assoc, append-nil, length-append, Option, Some, None}
use Rattle.std.specs.Prelude.{IsTrue, ◌^◌, ◌&&◌, ◌||◌, codes, if◌then◌else◌, not}
use Rattle.std.specs.List.{flat_map}
use Rattle.std.specs.Str.{bytes_eq}
use Rattle.std.proofs.lemmas.List.{get_or_default}
use Rattle.std.proofs.lemmas.List.Concat.{flat_map-append}
use Rattle.me_disk.specs.Disk.{Disk, bytes_of}
use Rattle.me_disk.specs.Holds.{Inside}
use Rattle.me_disk.specs.Steps.{ReadsOnly}
use Rattle.part_tree.specs.Letters.{four}
use Rattle.container_model.specs.Atoms.{atom}
use Rattle.container_model.specs.Chunk.{Chunk, Run, Stop, chunks, spell, spell_all}
use Rattle.container_model.specs.Sizes.{Level, atom_front, inside, user}
use Rattle.container_model.specs.Walk.{Step, along, body_at, chunk_at, chunk_met, end_at, walk, walk_at}
use Rattle.container_model.specs.Written.{slice}
use Rattle.container_model.proofs.Items.{same_true}
use Rattle.container_model.proofs.Walk.{walk_nested}
use Rattle.mov_model.specs.Atoms.{Place, dinf, file, format, mdia, minf, moov, opens, stbl, trak, user_data}
use Rattle.mov_model.specs.Reading.{atoms_met, inside_steps, kid_steps, row as steps}
use Rattle.qt_atoms.specs.Walk.{InOrder, atom_in, header_len, row}
use Rattle.qt_atoms.specs.declared.header.SizeForm.{SizeForm}
use Rattle.qt_atoms.specs.declared.header.SizeForm.TheVariants.{Short, Long, ToEnd}
use Rattle.qt_atoms.specs.declared.walker.AtomAt.{AtomAt}
use Rattle.qt_atoms.proofs.Steps.{header_length}
use Rattle.qt_text.specs.User.{udta}
use Rattle.unit_plan.proofs.Spans.{next_item}
use Rattle.mov_plan.specs.Atoms.{AllFollow, AreRow}
use Rattle.mov_plan.specs.Nested.{IsNext, Meets, StandIn, counted}
use Rattle.mov_plan.specs.Planned.{AreEach, HolderAt, IsHolder, holder_met, holds_by}
use Rattle.mov_plan.specs.Shapes.{atoms_by, atoms_of}

-- ---- some steps behind others

pub meets_none : (ks : List AtomAt) → Meets [] 0 ks ks
meets_none ks = record { count = refl; holders = λ hs each. subst (λ (gs : List HolderAt). AreEach gs ks) (sym (append-nil hs)) each }

-- the end of what is opened is no atom
pub meets_end : (p : Place) (at : ℕ) (stop : Stop) (ks : List AtomAt) → Meets (end_at p at stop ∷ []) 0 ks ks
meets_end p at stop ks = record { count = refl; holders = (meets_none ks).holders }

met_both : (xs ys : List (Step Place)) → atoms_met (xs ++ ys) ≡ atoms_met xs + atoms_met ys
met_both xs ys = ap length (flat_map-append chunk_met xs ys) ∙ length-append (flat_map chunk_met xs) (flat_map chunk_met ys)

pub meets_both : (xs ys : List (Step Place)) (n m : ℕ) (ks js is : List AtomAt) → Meets xs n ks js → Meets ys m js is → Meets (xs ++ ys) (n + m) ks is
meets_both xs ys n m ks js is f g = record {
  count = omega (arith, f.count, g.count, met_both xs ys);
  holders = λ hs each.
      subst (λ (gs : List HolderAt). AreEach gs is) (append_assoc hs (flat_map holder_met xs) (flat_map holder_met ys) ∙ ap (λ (gs : List HolderAt). hs ++ gs) (sym (flat_map-append holder_met xs ys)))
      (g.holders (hs ++ flat_map holder_met xs) (f.holders hs each));
}

-- ---- what is met so far, and what is left

pub record IsLeft (whole rest : List (Step Place)) (n : ℕ) (old now : List AtomAt) : Type 0 where
  pub mid : List (Step Place)
  pub joined : mid ++ rest ≡ whole
  pub meets : Meets mid n old now

pub all_left : (whole : List (Step Place)) (ks : List AtomAt) → IsLeft whole whole 0 ks ks
all_left whole ks = record { mid = []; joined = refl; meets = meets_none ks }

pub left_more : (whole rest xs more : List (Step Place)) (n m : ℕ) (old now next : List AtomAt) → IsLeft whole rest n old now → rest ≡ xs ++ more → Meets xs m now next → IsLeft whole more (n + m) old next
left_more whole rest xs more n m old now next left is meets = record {
  mid = left.mid ++ xs;
  joined = append_assoc left.mid xs more ∙ ap (λ (ss : List (Step Place)). left.mid ++ ss) (sym is) ∙ left.joined;
  meets = meets_both left.mid xs n m old now next left.meets meets;
}

pub left_none : (whole rest : List (Step Place)) (n : ℕ) (old now : List AtomAt) → rest ≡ [] → IsLeft whole rest n old now → Meets whole n old now
left_none whole rest n old now is left =
    subst (λ (ss : List (Step Place)). Meets ss n old now) (sym (append-nil left.mid) ∙ ap (λ (ss : List (Step Place)). left.mid ++ ss) (sym is) ∙ left.joined) left.meets

-- ---- the atoms of a range

pub along_none : (f : ℕ → Chunk → List (Step Place)) (s : Level) (b : List ℕ) (at end : ℕ) → IsNext s b at end None → along f at (row s b at end).chunks ≡ []
along_none f s b at end e = ap (along f at) e

pub along_more : (f : ℕ → Chunk → List (Step Place)) (s : Level) (b : List ℕ) (at end : ℕ) (k : AtomAt) → IsNext s b at end (Some k)
    → along f at (row s b at end).chunks ≡ f at (atom_in b k) ++ along f k.next (row s b k.next end).chunks
along_more f s b at end k e = ap (along f at) e.0 ∙ ap (λ (i : ℕ). f at (atom_in b k) ++ along f i (row s b k.next end).chunks) e.1

-- ---- one atom

pub head_some : (f : SizeForm) → 8 ≤ header_len f
head_some Short = omega arith
head_some Long = omega arith
head_some ToEnd = omega arith

holds_any : (p : Place) (c : Chunk) → holds_by p c ≡ holds_by p (atom c.id [])
holds_any file c = refl
holds_any user_data c = refl
holds_any moov c = refl
holds_any trak c = refl
holds_any mdia c = refl
holds_any minf c = refl
holds_any stbl c = refl
holds_any dinf c = refl

each_both : (hs gs : List HolderAt) (ks js : List AtomAt) → AreEach hs ks → AreEach gs js → AreEach (hs ++ gs) (ks ++ js)
each_both [] gs [] js f g = g
each_both [] gs (k ∷ ks) js f g = absurd f
each_both (h ∷ hs) gs [] js f g = absurd f
each_both (h ∷ hs) gs (k ∷ ks) js f g = (f.0, each_both hs gs ks js f.1 g)

-- the atom where it stands
abbrev here : List ℕ → AtomAt → HolderAt
here b k = record { at = k.at; atom = atom_in b k }

pub one_met : (p : Place) (b : List ℕ) (k : AtomAt) (old new : List AtomAt) → length (slice b k.body.at k.body.len) ≡ k.body.len → k.at + length (spell (atom_in b k)) ≡ k.next
    → new ≡ old ++ (if holds_by p (atom k.kind.0 []) then k ∷ [] else []) → Meets (chunk_at p k.at (atom_in b k) ∷ []) 1 old new
one_met p b k old new long place is = record {
  count = refl;
  holders = λ hs each. subst (AreEach (hs ++ flat_map holder_met (chunk_at p k.at (atom_in b k) ∷ []))) (sym is)
      (each_both hs (flat_map holder_met (chunk_at p k.at (atom_in b k) ∷ [])) old (if holds_by p (atom k.kind.0 []) then k ∷ [] else []) each
      (subst (λ (t : Bool). AreEach ((if t then here b k ∷ [] else []) ++ []) (if holds_by p (atom k.kind.0 []) then k ∷ [] else [])) (sym (holds_any p (atom_in b k))) (one (holds_by p (atom k.kind.0 [])))));
}
  where
    holder : IsHolder (here b k) k
    holder = record { at = refl; form = refl; kind = refl; body = sym long; next = sym place }

    one : (t : Bool) → AreEach ((if t then here b k ∷ [] else []) ++ []) (if t then k ∷ [] else [])
    one true = (holder, tt)
    one false = tt

-- ---- an atom and those in it

opens_any : (p : Place) (id word : List ℕ) → opens p id word ≡ opens p id []
opens_any file id word = refl
opens_any user_data id word = refl
opens_any moov id word = refl
opens_any trak id word = refl
opens_any mdia id word = refl
opens_any minf id word = refl
opens_any stbl id word = refl
opens_any dinf id word = refl

pub walk_zero : (d : ℕ) (p : Place) (at : ℕ) (c : Chunk) → d ≡ 0 → walk format d p at c ≡ chunk_at p at c ∷ []
unfolding walk
walk_zero zero p at c e = refl
walk_zero (suc d) p at c e = absurd (omega arith)

pub walk_none : (d : ℕ) (p : Place) (at : ℕ) (c : Chunk) → None ≡ opens p c.id [] → walk format d p at c ≡ chunk_at p at c ∷ []
unfolding walk
walk_none zero p at c e = refl
walk_none (suc d) p at c e = ap (λ (o : Option Place). chunk_at p at c ∷ walk_at format (walk format d) at c o) (opens_any p c.id (take 4 c.body) ∙ sym e)

-- the atoms of an opened one, and their end
abbrev opened_steps : ℕ → Place → ℕ → ℕ → Run → List (Step Place)
opened_steps d q at end r = along (walk format d q) at r.chunks ++ end_at q end r.stop ∷ []

kids_run : (s : Level) (c : Chunk) (b : List ℕ) (k : AtomAt) → c.body ≡ slice b k.body.at k.body.len → chunks atom_front s c.body ≡ row s b k.body.at (k.body.at + k.body.len)
kids_run s c b k body = ap (chunks atom_front s) (body ∙ ap (λ (n : ℕ). take n (drop k.body.at b)) (omega arith))

walk_some : (d : ℕ) (p q : Place) (c : Chunk) (b : List ℕ) (k : AtomAt) → (d ≡ 0 → ⊥) → Some q ≡ opens p c.id [] → body_at k.at c ≡ k.body.at → c.body ≡ slice b k.body.at k.body.len
    → (end : ℕ) × (walk format d p k.at c ≡ chunk_at p k.at c ∷ opened_steps (d - 1) q k.body.at end (row inside b k.body.at (k.body.at + k.body.len)))
unfolding walk
walk_some zero p q c b k some e place body = absurd (some refl)
walk_some (suc d) p q c b k some e place body =
    let r = chunks atom_front inside c.body in
    let end = body_at k.at c + (0 + length (spell_all r.chunks)) in
    let less : suc d - 1 ≡ d = omega arith in
    let near : body_at k.at c + 0 ≡ k.body.at = omega (arith, place) in (
      end,
      ap (λ (o : Option Place). chunk_at p k.at c ∷ walk_at format (walk format d) k.at c o) (opens_any p c.id (take 4 c.body) ∙ sym e)
          ∙ ap (λ (i : ℕ). chunk_at p k.at c ∷ opened_steps d q i end r) near
          ∙ ap (λ (x : Run). chunk_at p k.at c ∷ opened_steps d q k.body.at end x) (kids_run inside c b k body)
          ∙ ap (λ (i : ℕ). chunk_at p k.at c ∷ opened_steps i q k.body.at end (row inside b k.body.at (k.body.at + k.body.len))) (sym less),
    )

body_stands : (b : List ℕ) (k : AtomAt) (end : ℕ) → InOrder k.at end k → body_at k.at (atom_in b k) ≡ k.body.at
body_stands b k end order = ap (λ (n : ℕ). k.at + n) (header_length k.form k.kind.0 (length (slice b k.body.at k.body.len)) order.letters) ∙ sym order.body

-- an atom, and the atoms in it
opened_met : (d : ℕ) (p q : Place) (s : Level) (at end n : ℕ) (b : List ℕ) (k : AtomAt) (old now new : List AtomAt) → Meets (chunk_at p at (atom_in b k) ∷ []) 1 old now
    → Meets (along (walk format d q) k.body.at (row s b k.body.at (k.body.at + k.body.len)).chunks) n now new
    → Meets (chunk_at p at (atom_in b k) ∷ opened_steps d q k.body.at end (row s b k.body.at (k.body.at + k.body.len))) (1 + n) old new
opened_met d p q s at end n b k old now new f g =
    let r = row s b k.body.at (k.body.at + k.body.len) in
    let more : Meets (opened_steps d q k.body.at end r) (n + 0) now new =
    meets_both (along (walk format d q) k.body.at r.chunks) (end_at q end r.stop ∷ []) n 0 now new new g (meets_end q end r.stop new)
    in
    meets_both (chunk_at p at (atom_in b k) ∷ []) (opened_steps d q k.body.at end r) 1 n old now new f (subst (λ (i : ℕ). Meets (opened_steps d q k.body.at end r) i now new) (omega arith) more)

pub inner_met : (d : ℕ) (p q : Place) (s : Level) (n : ℕ) (b : List ℕ) (k : AtomAt) (old now new : List AtomAt) → (d ≡ 0 → ⊥) → InOrder k.at k.next k → Some q ≡ opens p k.kind.0 [] → s ≡ inside
    → Meets (chunk_at p k.at (atom_in b k) ∷ []) 1 old now
    → Meets (along (walk format (d - 1) q) k.body.at (row s b k.body.at (k.body.at + k.body.len)).chunks) n now new
    → Meets (walk format d p k.at (atom_in b k)) (1 + n) old new
inner_met d p q s n b k old now new some order e level f g =
    let r = row inside b k.body.at (k.body.at + k.body.len) in
    let w = walk_some d p q (atom_in b k) b k some e (body_stands b k k.next order) refl in
    subst (λ (ss : List (Step Place)). Meets ss (1 + n) old new) (sym w.1)
    (opened_met (d - 1) p q inside k.at w.0 n b k old now new f
    (subst (λ (x : Level). Meets (along (walk format (d - 1) q) k.body.at (row x b k.body.at (k.body.at + k.body.len)).chunks) n now new) level g))

-- ---- the first user data

flat : (at : ℕ) (cs : List Chunk) → steps user_data at cs ≡ along (walk format 0 user_data) at cs
unfolding walk
flat at [] = refl
flat at (c ∷ cs) = ap (λ (ss : List (Step Place)). chunk_at user_data at c ∷ ss) (flat (at + length (spell c)) cs)

no_holder : (id : List ℕ) → bytes_eq id (codes "udta") ≡ true → holds_by moov (atom id []) ≡ false
no_holder id e = let is : id ≡ codes "udta" = same_true id (codes "udta") e in rw is refl

pub user_met : (b : List ℕ) (k : AtomAt) (n : ℕ) (old new : List AtomAt) → InOrder k.at k.next k → length (slice b k.body.at k.body.len) ≡ k.body.len → k.at + length (spell (atom_in b k)) ≡ k.next
    → bytes_eq k.kind.0 (codes "udta") ≡ true
    → Meets (along (walk format 0 user_data) k.body.at (row user b k.body.at (k.body.at + k.body.len)).chunks) n old new
    → Meets (kid_steps true k.at (atom_in b k)) (1 + n) old new
user_met b k n old new order long place is g =
    let c = atom_in b k in
    let r = chunks atom_front user c.body in
    let end = body_at k.at c + length (spell_all r.chunks) in
    let first_one : Meets (chunk_at moov k.at c ∷ []) 1 old old =
    one_met moov b k old old long place (sym (ap (λ (t : Bool). old ++ (if t then k ∷ [] else [])) (no_holder k.kind.0 is) ∙ append-nil old))
    in
    let same : kid_steps true k.at c ≡ chunk_at moov k.at c ∷ opened_steps 0 user_data k.body.at end (row user b k.body.at (k.body.at + k.body.len)) =
    ap (λ (ss : List (Step Place)). chunk_at moov k.at c ∷ (ss ++ end_at user_data end r.stop ∷ [])) (flat (body_at k.at c) r.chunks)
    ∙ ap (λ (i : ℕ). chunk_at moov k.at c ∷ opened_steps 0 user_data i end r) (body_stands b k k.next order)
    ∙ ap (λ (x : Run). chunk_at moov k.at c ∷ opened_steps 0 user_data k.body.at end x) (kids_run user c b k refl)
    in
    subst (λ (ss : List (Step Place)). Meets ss (1 + n) old new) (sym same) (opened_met 0 moov user_data user k.at end n b k old old new first_one g)

-- ---- the atoms of moov

row_met : (at : ℕ) (cs : List Chunk) (p : Place) (end : ℕ) (stop : Stop) → atoms_met (steps p at cs ++ end_at p end stop ∷ []) ≡ length cs
row_met at [] p end stop = refl
row_met at (c ∷ cs) p end stop = ap suc (row_met (at + length (spell c)) cs p end stop)

kid_met : (first : Bool) (at : ℕ) (c : Chunk) → atoms_met (kid_steps first at c) ≡ atoms_by c first
kid_met true at c = ap suc (row_met (body_at at c) (udta.opening c).chunks user_data (body_at at c + length (spell_all (udta.opening c).chunks)) (udta.opening c).stop)
kid_met false at c = ap length (walk_nested format 5 moov at c)

next_atom : (ks : List AtomAt) (i : ℕ) (d : AtomAt) → i < length ks → drop i ks ≡ get_or ks i d ∷ drop (i + 1) ks
next_atom ks i d lt = next_item ks i (get_or ks i d) lt (get_or_default ks i d (get_or ks i d) lt)

-- the atom with a number, and those behind it
stand_from : (d : Disk) (ks : List AtomAt) (i : ℕ) (x : AtomAt) → i < length ks → StandIn d (drop i ks) → StandIn d (get_or ks i x ∷ drop (i + 1) ks)
stand_from d ks i x lt s = subst (StandIn d) (next_atom ks i x lt) s

-- what is read past the end
abbrev none : AtomAt
none = record { kind = four []; at = 0; body = record { at = 0; len = 0 }; form = Short; next = 0 }

pub stand_next : (d : Disk) (ks : List AtomAt) (i : ℕ) → i < length ks → StandIn d (drop i ks) → StandIn d (drop (i + 1) ks)
stand_next d ks i lt s =
    let t = stand_from d ks i none lt s in
    record { from = (get_or ks i none).next; end = t.end; follow = t.follow.1; inside = t.inside; small = t.small }

-- atoms that were told by calls that only read
pub stands_in : (old new : Disk) (from end : ℕ) (ks : List AtomAt) → ReadsOnly old new → Inside end old → end < 2 ^ 63 → AllFollow from ks end → StandIn new ks
stands_in old new from end ks reads there small follow = record {
  from = from;
  end = end;
  follow = follow;
  inside = λ b holds. there b (record { tells = subst IsTrue reads.tells holds.tells; bytes = sym (ap bytes_of reads.main) ∙ holds.bytes });
  small = small;
}

-- What is told of the atoms so far, and the atoms that are left, of which the first stands at a place.
pub record KidsLeft (b : List ℕ) (at : ℕ) (all : List Chunk) (rest : List AtomAt) (seen : Bool) (ns : List ℕ) (held : List AtomAt) : Type 0 where
  pub now : ℕ
  pub left : List Chunk
  pub are : AreRow b now rest left
  pub counts : ns ++ counted seen left ≡ counted false all
  pub mid : List HolderAt
  pub each : AreEach mid held
  pub joined : mid ++ flat_map holder_met (inside_steps seen now left) ≡ flat_map holder_met (inside_steps false at all)

pub all_kids : (b : List ℕ) (at : ℕ) (all : List Chunk) (ks : List AtomAt) → AreRow b at ks all → KidsLeft b at all ks false [] []
all_kids b at all ks are = record { now = at; left = all; are = are; counts = refl; mid = []; each = tt; joined = refl }

module _ (b : List ℕ) (at : ℕ) (all : List Chunk) where
  pub kids_none : (seen : Bool) (counts : List ℕ) (holders : List AtomAt) → KidsLeft b at all [] seen counts holders
      → (counts ≡ counted false all) × AreEach (flat_map holder_met (inside_steps false at all)) holders
  kids_none seen counts holders left = go left.left left.are left.counts left.joined
    where
      go : (cs : List Chunk) → AreRow b left.now [] cs → counts ++ counted seen cs ≡ counted false all → left.mid ++ flat_map holder_met (inside_steps seen left.now cs) ≡ flat_map holder_met (inside_steps false at all)
          → (counts ≡ counted false all) × AreEach (flat_map holder_met (inside_steps false at all)) holders
      go [] are c j = (sym (append-nil counts) ∙ c, subst (λ (hs : List HolderAt). AreEach hs holders) (sym (append-nil left.mid) ∙ j) left.each)
      go (x ∷ cs) are c j = absurd are

  pub kids_more : (k : AtomAt) (rest : List AtomAt) (seen : Bool) (counts more : List ℕ) (n : ℕ) (holders new : List AtomAt) → KidsLeft b at all (k ∷ rest) seen counts holders → more ≡ counts ++ n ∷ []
      → (k.at + length (spell (atom_in b k)) ≡ k.next → Meets (kid_steps (not seen && bytes_eq k.kind.0 (codes "udta")) k.at (atom_in b k)) n holders new)
      → KidsLeft b at all rest (seen || bytes_eq k.kind.0 (codes "udta")) more new
  kids_more k rest seen counts more n holders new left is meets = go left.left left.are left.counts left.joined
    where
      go : (cs : List Chunk) → AreRow b left.now (k ∷ rest) cs → counts ++ counted seen cs ≡ counted false all → left.mid ++ flat_map holder_met (inside_steps seen left.now cs) ≡ flat_map holder_met (inside_steps false at all)
          → KidsLeft b at all rest (seen || bytes_eq k.kind.0 (codes "udta")) more new
      go [] are c j = absurd are
      go (x ∷ cs) are c j =
          let this = atom_in b k in
          let first = not seen && bytes_eq k.kind.0 (codes "udta") in
          let after = seen || bytes_eq k.kind.0 (codes "udta") in
          let place : k.at + length (spell this) ≡ k.next = ap (λ (i : ℕ). i + length (spell this)) are.0 ∙ ap (λ (y : Chunk). left.now + length (spell y)) are.1 ∙ sym are.2 in
          let m = meets place in
          let told : n ≡ atoms_of seen this = m.count ∙ kid_met first k.at this in
          let counts_are : counts ++ (atoms_of seen this ∷ counted after cs) ≡ counted false all = subst (λ (y : Chunk). counts ++ counted seen (y ∷ cs) ≡ counted false all) (sym are.1) c in
          let here_at : left.mid ++ flat_map holder_met (kid_steps first k.at this ++ inside_steps after (k.at + length (spell this)) cs) ≡ flat_map holder_met (inside_steps false at all) =
          subst (λ (i : ℕ). left.mid ++ flat_map holder_met (inside_steps seen i (this ∷ cs)) ≡ flat_map holder_met (inside_steps false at all)) (sym are.0)
          (subst (λ (y : Chunk). left.mid ++ flat_map holder_met (inside_steps seen left.now (y ∷ cs)) ≡ flat_map holder_met (inside_steps false at all)) (sym are.1) j)
          in
          record {
            now = k.next;
            left = cs;
            are = are.3;
            counts = ap (λ (ns : List ℕ). ns ++ counted after cs) is ∙ append_assoc counts (n ∷ []) (counted after cs) ∙ ap (λ (i : ℕ). counts ++ (i ∷ counted after cs)) told ∙ counts_are;
            mid = left.mid ++ flat_map holder_met (kid_steps first k.at this);
            each = m.holders left.mid left.each;
            joined = append_assoc left.mid (flat_map holder_met (kid_steps first k.at this)) (flat_map holder_met (inside_steps after k.next cs))
                ∙ ap (λ (hs : List HolderAt). left.mid ++ hs) (sym (flat_map-append holder_met (kid_steps first k.at this) (inside_steps after k.next cs)))
                ∙ ap (λ (i : ℕ). left.mid ++ flat_map holder_met (kid_steps first k.at this ++ inside_steps after i cs)) (sym place)
                ∙ here_at;
          }

  -- the same of the atom with a number
  pub kids_next : (ks : List AtomAt) (i : ℕ) (d : AtomAt) (seen : Bool) (counts more : List ℕ) (n : ℕ) (holders new : List AtomAt) → i < length ks → KidsLeft b at all (drop i ks) seen counts holders → more ≡ counts ++ n ∷ []
      → ((get_or ks i d).at + length (spell (atom_in b (get_or ks i d))) ≡ (get_or ks i d).next
      → Meets (kid_steps (not seen && bytes_eq (get_or ks i d).kind.0 (codes "udta")) (get_or ks i d).at (atom_in b (get_or ks i d))) n holders new)
      → KidsLeft b at all (drop (i + 1) ks) (seen || bytes_eq (get_or ks i d).kind.0 (codes "udta")) more new
  kids_next ks i d seen counts more n holders new lt left one meets =
      kids_more (get_or ks i d) (drop (i + 1) ks) seen counts more n holders new (subst (λ (js : List AtomAt). KidsLeft b at all js seen counts holders) (next_atom ks i d lt) left) one meets

-- The headers of atoms that grow and the wide rows of their tables, in one atom of moov.
use Rattle.std.proofs.Common.{◌≡◌, ◌∙◌, ℕ, zero, suc, ◌+◌, ◌-◌, ◌*◌, ◌≤◌, ◌<◌, Bool, true, false, cond, List, [], ◌∷◌, ◌++◌, length, map, take, Option, Some, None, refl, sym, ap, subst, arith, append_assoc, append-nil}
use Rattle.std.specs.Prelude.{codes, is_some, sum_by}
use Rattle.std.specs.Str.{bytes_eq}
use Rattle.std.specs.List.{AllByRecursion, flat_map}
use Rattle.std.proofs.lemmas.List.{length-append}
use Rattle.std.proofs.lemmas.List.Concat.{flat_map-append}
use Rattle.me_bytes.specs.Bytes.{IsBytes}
use Rattle.container_model.specs.Atoms.{is}
use Rattle.container_model.specs.Chunk.{Chunk, spell, spell_all}
use Rattle.container_model.specs.Deep.{kids}
use Rattle.container_model.specs.Rows.{be32, be64}
use Rattle.container_model.specs.Splice.{Cut}
use Rattle.container_model.specs.Walk.{Step, along, body_at, chunk_at, end_at, walk, walk_at}
use Rattle.container_model.specs.Sizes.{atom_front, inside}
use Rattle.container_model.proofs.Atoms.{atoms_give_back}
use Rattle.container_model.proofs.Codec.{chunks_joined}
use Rattle.container_model.proofs.Deep.{bytes_of}
use Rattle.container_model.proofs.Items.{same_true}
use Rattle.container_model.proofs.Walk.{all_join, all_parts}
use Rattle.mov_model.specs.Atoms.{Place, dinf, either, file, format, mdia, minf, moov, opens, stbl, trak, user_data, when}
use Rattle.mov_model.proofs.Steps.{StepFine}
use Rattle.mov_model.specs.Cuts.{RowTable, step_tables, table_cut, table_of}
use Rattle.sample_tables.specs.Tables.{count}
use Rattle.mov_plan.specs.Holders.{kind_after}
use Rattle.mov_plan.specs.Planned.{holds_by}
use Rattle.mov_model.specs.WideCuts.{grown_in, head_cut, row_growth, rows_growth, wide_cuts_at, wide_rows, wide_step_cuts}
use Rattle.mov_plan.proofs.Among.{from_all, mixed_heads}
use Rattle.mov_plan.proofs.Lying.{StepLow, rows_low}
use Rattle.mov_plan.proofs.Mixed.{all_weaken, mixed, mixed_past}
use Rattle.mov_plan.proofs.Stepping.{EndsBy, Grows, InOrder, StepHigh, all_grow, deeper, grown_to, growth_both, level, no_tables, order_high, order_rows_end, order_rows_low, order_steps, spell_some, along_order, to_all, to_both, to_none, walk_order, walk_same}

-- ---- the headers of the definitions

abbrev pub law_head : Place → ℕ → Chunk → Option Place → List Cut
law_head p at c (Some q) = head_cut at c c.id (length c.body + grown_in p c) ∷ []
law_head stbl at c None = cond (is c (codes "stco")) (head_cut at c (codes "co64") (length c.body + 4 * count c) ∷ []) []
law_head p at c None = []

abbrev pub law_heads : Step Place → List Cut
law_heads (chunk_at p at c) = law_head p at c (opens p c.id (take 4 c.body))
law_heads (end_at p at stop) = []

-- each stands at its atom
head_at : (P : ℕ → Type 0) (p : Place) (at : ℕ) (c : Chunk) (o : Option Place) → P at → AllByRecursion (λ (h : Cut). P h.at) (law_head p at c o)
head_at P p at c (Some q) h = (h, tt)
head_at P stbl at c None h = go (is c (codes "stco"))
  where
    go : (t : Bool) → AllByRecursion (λ (h : Cut). P h.at) (cond t (head_cut at c (codes "co64") (length c.body + 4 * count c) ∷ []) [])
    go true = (h, tt)
    go false = tt
head_at P file at c None h = tt
head_at P user_data at c None h = tt
head_at P moov at c None h = tt
head_at P trak at c None h = tt
head_at P mdia at c None h = tt
head_at P minf at c None h = tt
head_at P dinf at c None h = tt

step_head_low : (low : ℕ) (s : Step Place) → StepLow low s → AllByRecursion (λ (h : Cut). low ≤ h.at) (law_heads s)
step_head_low low (chunk_at p at c) h = head_at (λ n. low ≤ n) p at c (opens p c.id (take 4 c.body)) h
step_head_low low (end_at p at stop) h = tt

step_head_high : (high : ℕ) (s : Step Place) → StepHigh high s → AllByRecursion (λ (h : Cut). h.at < high) (law_heads s)
step_head_high high (chunk_at p at c) h = head_at (λ n. n < high) p at c (opens p c.id (take 4 c.body)) h
step_head_high high (end_at p at stop) h = tt

pub heads_low : (low : ℕ) (ss : List (Step Place)) → AllByRecursion (StepLow low) ss → AllByRecursion (λ (h : Cut). low ≤ h.at) (flat_map law_heads ss)
heads_low low [] h = tt
heads_low low (s ∷ ss) h = all_join (λ (h : Cut). low ≤ h.at) (law_heads s) (flat_map law_heads ss) (step_head_low low s h.0) (heads_low low ss h.1)

pub heads_high : (high : ℕ) (ss : List (Step Place)) → AllByRecursion (StepHigh high) ss → AllByRecursion (λ (h : Cut). h.at < high) (flat_map law_heads ss)
heads_high high [] h = tt
heads_high high (s ∷ ss) h = all_join (λ (h : Cut). h.at < high) (law_heads s) (flat_map law_heads ss) (step_head_high high s h.0) (heads_high high ss h.1)

-- the rows of a step stand behind its header
own_rows : (s : Step Place) → AllByRecursion (λ (h : Cut). AllByRecursion (λ (r : RowTable). h.at < r.at) (step_tables s)) (law_heads s)
own_rows (chunk_at p at c) =
    let rs : AllByRecursion (λ (r : RowTable). at < r.at) (step_tables (chunk_at p at c)) = subst (AllByRecursion (λ (r : RowTable). at < r.at)) (append-nil (step_tables (chunk_at p at c))) (rows_low at (chunk_at p at c ∷ []) (omega arith, tt)) in
    head_at (λ n. AllByRecursion (λ (r : RowTable). n < r.at) (step_tables (chunk_at p at c))) p at c (opens p c.id (take 4 c.body)) rs
own_rows (end_at p at stop) = tt

all_both : (hs : List Cut) (rs more : List RowTable) (low : ℕ) → AllByRecursion (λ (h : Cut). AllByRecursion (λ (r : RowTable). h.at < r.at) rs) hs → AllByRecursion (λ (h : Cut). h.at < low) hs → AllByRecursion (λ (r : RowTable). low < r.at) more
    → AllByRecursion (λ (h : Cut). AllByRecursion (λ (r : RowTable). h.at < r.at) (rs ++ more)) hs
all_both [] rs more low a b m = tt
all_both (h ∷ hs) rs more low a b m =
    (all_join (λ (r : RowTable). h.at < r.at) rs more a.0 (all_weaken (λ (r : RowTable). low < r.at) (λ (r : RowTable). h.at < r.at) (λ r x. omega (arith, x, b.0)) more m), all_both hs rs more low a.1 b.1 m)

module _ (g : RowTable → Cut) (f : ℕ → ℕ) where
  -- the spans of a step are its header and its rows
  abbrev pub StepIs : Step Place → Type 0
  StepIs s = wide_step_cuts f s ≡ law_heads s ++ map g (step_tables s)

  -- The headers and the rows of steps in order, by place.
  pub steps_mixed : (low high : ℕ) (ss : List (Step Place)) → InOrder low ss high → AllByRecursion StepIs ss → mixed g (flat_map law_heads ss) (flat_map step_tables ss) ≡ flat_map (wide_step_cuts f) ss
  steps_mixed low high [] h is = refl
  steps_mixed low high (s ∷ ss) h is =
      let next = h.1.0 in
      let hs = law_heads s in
      let rs = step_tables s in
      let xs = flat_map law_heads ss in
      let more = flat_map step_tables ss in
      let later = order_rows_low next high ss h.1.1.3 in
      let up = all_weaken (EndsBy next) (λ (r : RowTable). r.at ≤ next) (λ r x. omega (arith, x)) rs h.1.1.2 in
      mixed_heads g hs xs (rs ++ more) (all_both hs rs more next (own_rows s) (step_head_high next s h.1.1.1) later)
      ∙ ap (λ (y : List Cut). hs ++ y) (mixed_past g xs next rs more (from_all next xs (heads_low next ss (order_steps next high ss h.1.1.3))) up)
      ∙ ap (λ (y : List Cut). hs ++ (map g rs ++ y)) (steps_mixed next high ss h.1.1.3 is.1)
      ∙ sym (append_assoc hs (map g rs) (flat_map (wide_step_cuts f) ss))
      ∙ ap (λ (y : List Cut). y ++ flat_map (wide_step_cuts f) ss) (sym is.0)

  -- a step, where the rows of a table are as they are told
  pub step_is : (p : Place) (at : ℕ) (c : Chunk) → (is c (codes "stco") ≡ true → g (table_of be32 at c) ≡ wide_rows f at c) → (is c (codes "stco") ≡ false → is c (codes "co64") ≡ true → g (table_of be64 at c) ≡ table_cut f c (table_of be64 at c)) → StepIs (chunk_at p at c)
  step_is p at c four eight = go (opens p c.id (take 4 c.body)) refl
    where
      leaf : (t u : Bool) → is c (codes "stco") ≡ t → is c (codes "co64") ≡ u
          → cond t (head_cut at c (codes "co64") (length c.body + 4 * count c) ∷ (wide_rows f at c ∷ [])) (map (table_cut f c) (cond t (table_of be32 at c ∷ []) (cond u (table_of be64 at c ∷ []) [])))
          ≡ cond t (head_cut at c (codes "co64") (length c.body + 4 * count c) ∷ []) [] ++ map g (cond t (table_of be32 at c ∷ []) (cond u (table_of be64 at c ∷ []) []))
      leaf true u e i = ap (λ (x : Cut). head_cut at c (codes "co64") (length c.body + 4 * count c) ∷ (x ∷ [])) (sym (four e))
      leaf false true e i = ap (λ (x : Cut). x ∷ []) (sym (eight e i))
      leaf false false e i = refl

      closed : (p : Place) → wide_cuts_at f p at c None ≡ law_head p at c None ++ map g (step_tables (chunk_at p at c))
      closed stbl = leaf (is c (codes "stco")) (is c (codes "co64")) refl refl
      closed file = refl
      closed user_data = refl
      closed moov = refl
      closed trak = refl
      closed mdia = refl
      closed minf = refl
      closed dinf = refl

      go : (o : Option Place) → opens p c.id (take 4 c.body) ≡ o → wide_cuts_at f p at c o ≡ law_head p at c o ++ map g (step_tables (chunk_at p at c))
      go None e = closed p
      go (Some q) e = ap (λ (x : List RowTable). head_cut at c c.id (length c.body + grown_in p c) ∷ map g x) (sym (no_tables p q at c e))

-- ---- the headers of a plan

-- an atom that is opened is no table
when_named : (t : Bool) (p q : Place) → when t p ≡ Some q → t ≡ true
when_named true p q e = refl
when_named false p q e = absurd cc

kind_by : (id name : List ℕ) → bytes_eq id name ≡ true → kind_after name ≡ name → kind_after id ≡ id
kind_by id name e k = let same = same_true id name e in ap kind_after same ∙ k ∙ sym same

pub opened_kind : (p q : Place) (id word : List ℕ) → opens p id word ≡ Some q → kind_after id ≡ id
opened_kind file q id word e = absurd cc
opened_kind user_data q id word e = absurd cc
opened_kind moov q id word e = kind_by id (codes "trak") (when_named (bytes_eq id (codes "trak")) trak q e) refl
opened_kind trak q id word e = kind_by id (codes "mdia") (when_named (bytes_eq id (codes "mdia")) mdia q e) refl
opened_kind mdia q id word e = kind_by id (codes "minf") (when_named (bytes_eq id (codes "minf")) minf q e) refl
opened_kind minf q id word e = go (bytes_eq id (codes "stbl")) (bytes_eq id (codes "dinf")) refl refl e
  where
    go : (t u : Bool) → bytes_eq id (codes "stbl") ≡ t → bytes_eq id (codes "dinf") ≡ u → either t stbl (when u dinf) ≡ Some q → kind_after id ≡ id
    go true u i j e = kind_by id (codes "stbl") i refl
    go false true i j e = kind_by id (codes "dinf") j refl
    go false false i j e = absurd cc
opened_kind stbl q id word e = absurd cc
opened_kind dinf q id word e = absurd cc

module _ (all : List RowTable) where
  -- by how much the tables grow that stand from a place on, before another
  abbrev pub grown_from : ℕ → ℕ → ℕ
  grown_from from to = grown_to to all - grown_to from all

  -- the header of an atom that holds tables
  abbrev pub plan_head : Place → ℕ → Chunk → List Cut
  plan_head p at c = cond (holds_by p c) (head_cut at c (kind_after c.id) (length c.body + grown_from at (at + length (spell c))) ∷ []) []

  abbrev pub plan_heads : Step Place → List Cut
  plan_heads (chunk_at p at c) = plan_head p at c
  plan_heads (end_at p at stop) = []

  -- the tables of some steps stand between those of others
  pub record Among (low : ℕ) (ss : List (Step Place)) (high : ℕ) : Type 0 where
    pub before : List RowTable
    pub behind : List RowTable
    pub are : all ≡ before ++ (flat_map step_tables ss ++ behind)
    pub ends : AllByRecursion (EndsBy low) before
    pub grow : AllByRecursion Grows before
    pub begins : AllByRecursion (λ (r : RowTable). high ≤ r.at) behind

  -- what they grow by
  pub grown_here : (low high : ℕ) (ss : List (Step Place)) → InOrder low ss high → Among low ss high → grown_from low high ≡ rows_growth ss
  grown_here low high ss h a =
      let rs = flat_map step_tables ss in
      let le = Rattle.mov_plan.proofs.Stepping.order_end low high ss h in
      let parts : (p : ℕ) → grown_to p all ≡ grown_to p a.before + (grown_to p rs + grown_to p a.behind) = λ p. omega (arith, ap (grown_to p) a.are, to_both p a.before (rs ++ a.behind), to_both p rs a.behind) in
      let here = to_all high rs (order_rows_end low high ss h) (all_grow ss) in
      let none = to_none low rs (all_weaken (λ (r : RowTable). low < r.at) (λ (r : RowTable). low ≤ r.at) (λ r x. omega (arith, x)) rs (order_rows_low low high ss h)) in
      let past = to_none high a.behind a.begins in
      let past_low = to_none low a.behind (all_weaken (λ (r : RowTable). high ≤ r.at) (λ (r : RowTable). low ≤ r.at) (λ r x. omega (arith, x, le)) a.behind a.begins) in
      let first = to_all low a.before a.ends a.grow in
      let again = to_all high a.before (all_weaken (EndsBy low) (EndsBy high) (λ r x. omega (arith, x, le)) a.before a.ends) a.grow in
      omega (arith, parts low, parts high, here, none, past, past_low, first, again)

  holds_opened : (p q : Place) (c : Chunk) → opens p c.id (take 4 c.body) ≡ Some q → holds_by p c ≡ true
  holds_opened stbl q c e = absurd cc
  holds_opened file q c e = absurd cc
  holds_opened user_data q c e = absurd cc
  holds_opened moov q c e = ap is_some e
  holds_opened trak q c e = ap is_some e
  holds_opened mdia q c e = ap is_some e
  holds_opened minf q c e = ap is_some e
  holds_opened dinf q c e = absurd cc

  -- the header of an atom that is opened
  opened_head : (p q : Place) (at : ℕ) (c : Chunk) → opens p c.id (take 4 c.body) ≡ Some q → grown_from at (at + length (spell c)) ≡ grown_in p c → plan_head p at c ≡ head_cut at c c.id (length c.body + grown_in p c) ∷ []
  opened_head p q at c e grown =
      ap (λ (t : Bool). cond t (head_cut at c (kind_after c.id) (length c.body + grown_from at (at + length (spell c))) ∷ []) []) (holds_opened p q c e)
      ∙ ap (λ (id : List ℕ). head_cut at c id (length c.body + grown_from at (at + length (spell c))) ∷ []) (opened_kind p q c.id (take 4 c.body) e)
      ∙ ap (λ (n : ℕ). head_cut at c c.id (length c.body + n) ∷ []) grown

  -- that of another
  closed_head : (p : Place) (at : ℕ) (c : Chunk) → opens p c.id (take 4 c.body) ≡ None → grown_from at (at + length (spell c)) ≡ rows_growth (chunk_at p at c ∷ []) → plan_head p at c ≡ law_head p at c None
  closed_head stbl at c e grown = go (is c (codes "stco")) refl
    where
      go : (t : Bool) → is c (codes "stco") ≡ t → cond t (head_cut at c (kind_after c.id) (length c.body + grown_from at (at + length (spell c))) ∷ []) [] ≡ cond t (head_cut at c (codes "co64") (length c.body + 4 * count c) ∷ []) []
      go true i =
          let kind : kind_after c.id ≡ codes "co64" = ap (λ (t : Bool). cond t (codes "co64") c.id) i in
          let four : rows_growth (chunk_at stbl at c ∷ []) ≡ 4 * count c
          = ap (λ (t : Bool). sum_by row_growth (cond t (table_of be32 at c ∷ []) (cond (is c (codes "co64")) (table_of be64 at c ∷ []) []) ++ [])) i ∙ Rattle.std.proofs.lemmas.List.Sums.sum_by-cons row_growth (table_of be32 at c) [] ∙ omega arith in
          ap (λ (id : List ℕ). head_cut at c id (length c.body + grown_from at (at + length (spell c))) ∷ []) kind ∙ ap (λ (n : ℕ). head_cut at c (codes "co64") (length c.body + n) ∷ []) (grown ∙ four)
      go false i = refl
  closed_head file at c e grown = ap (λ (o : Option Place). cond (is_some o) (head_cut at c (kind_after c.id) (length c.body + grown_from at (at + length (spell c))) ∷ []) []) e
  closed_head user_data at c e grown = ap (λ (o : Option Place). cond (is_some o) (head_cut at c (kind_after c.id) (length c.body + grown_from at (at + length (spell c))) ∷ []) []) e
  closed_head moov at c e grown = ap (λ (o : Option Place). cond (is_some o) (head_cut at c (kind_after c.id) (length c.body + grown_from at (at + length (spell c))) ∷ []) []) e
  closed_head trak at c e grown = ap (λ (o : Option Place). cond (is_some o) (head_cut at c (kind_after c.id) (length c.body + grown_from at (at + length (spell c))) ∷ []) []) e
  closed_head mdia at c e grown = ap (λ (o : Option Place). cond (is_some o) (head_cut at c (kind_after c.id) (length c.body + grown_from at (at + length (spell c))) ∷ []) []) e
  closed_head minf at c e grown = ap (λ (o : Option Place). cond (is_some o) (head_cut at c (kind_after c.id) (length c.body + grown_from at (at + length (spell c))) ∷ []) []) e
  closed_head dinf at c e grown = ap (λ (o : Option Place). cond (is_some o) (head_cut at c (kind_after c.id) (length c.body + grown_from at (at + length (spell c))) ∷ []) []) e

  -- ---- parts of steps

  pub among_first : (low mid high : ℕ) (xs ys : List (Step Place)) → InOrder mid ys high → Among low (xs ++ ys) high → Among low xs mid
  among_first low mid high xs ys h a =
      let x = flat_map step_tables xs in
      let y = flat_map step_tables ys in
      let le = Rattle.mov_plan.proofs.Stepping.order_end mid high ys h in
      record {
        before = a.before;
        behind = y ++ a.behind;
        are = a.are ∙ ap (λ (z : List RowTable). a.before ++ (z ++ a.behind)) (flat_map-append step_tables xs ys) ∙ ap (λ (z : List RowTable). a.before ++ z) (append_assoc x y a.behind);
        ends = a.ends;
        grow = a.grow;
        begins = all_join (λ (r : RowTable). mid ≤ r.at) y a.behind (all_weaken (λ (r : RowTable). mid < r.at) (λ (r : RowTable). mid ≤ r.at) (λ r z. omega (arith, z)) y (order_rows_low mid high ys h))
            (all_weaken (λ (r : RowTable). high ≤ r.at) (λ (r : RowTable). mid ≤ r.at) (λ r z. omega (arith, z, le)) a.behind a.begins);
      }

  pub among_second : (low mid high : ℕ) (xs ys : List (Step Place)) → InOrder low xs mid → Among low (xs ++ ys) high → Among mid ys high
  among_second low mid high xs ys h a =
      let x = flat_map step_tables xs in
      let y = flat_map step_tables ys in
      let le = Rattle.mov_plan.proofs.Stepping.order_end low mid xs h in
      record {
        before = a.before ++ x;
        behind = a.behind;
        are = a.are ∙ ap (λ (z : List RowTable). a.before ++ (z ++ a.behind)) (flat_map-append step_tables xs ys) ∙ simp append_assoc;
        ends = all_join (EndsBy mid) a.before x (all_weaken (EndsBy low) (EndsBy mid) (λ r z. omega (arith, z, le)) a.before a.ends) (order_rows_end low mid xs h);
        grow = all_join Grows a.before x a.grow (all_grow xs);
        begins = a.begins;
      }

  abbrev SameHeads : List (Step Place) → Type 0
  SameHeads ss = flat_map plan_heads ss ≡ flat_map law_heads ss

  same_both : (xs ys : List (Step Place)) → SameHeads xs → SameHeads ys → SameHeads (xs ++ ys)
  same_both xs ys h g =
      flat_map-append plan_heads xs ys ∙ ap (λ (z : List Cut). z ++ flat_map plan_heads ys) h ∙ ap (λ (z : List Cut). flat_map law_heads xs ++ z) g ∙ sym (flat_map-append law_heads xs ys)

  pub along_heads : (g : ℕ → Chunk → List (Step Place)) → ((at : ℕ) (c : Chunk) → IsBytes c.body → AllByRecursion StepFine (g at c) → InOrder at (g at c) (at + length (spell c)))
      → ((at : ℕ) (c : Chunk) → IsBytes c.body → AllByRecursion StepFine (g at c) → Among at (g at c) (at + length (spell c)) → SameHeads (g at c))
      → (at : ℕ) (cs : List Chunk) → AllByRecursion (λ c. IsBytes c.body) cs → AllByRecursion StepFine (along g at cs) → Among at (along g at cs) (at + length (spell_all cs)) → SameHeads (along g at cs)
  along_heads g order each at [] bytes fine a = refl
  along_heads g order each at (c ∷ cs) bytes fine a =
      let next = at + length (spell c) in
      let high = at + length (spell c ++ spell_all cs) in
      let p = all_parts StepFine (g at c) (along g next cs) fine in
      let end : next + length (spell_all cs) ≡ high = omega (arith, length-append (spell c) (spell_all cs)) in
      let later : InOrder next (along g next cs) high = subst (InOrder next (along g next cs)) end (along_order g order next cs bytes.1 p.1) in
      let rest : Among next (along g next cs) (next + length (spell_all cs)) = subst (Among next (along g next cs)) (sym end) (among_second at next high (g at c) (along g next cs) (order at c bytes.0 p.0) a) in
      same_both (g at c) (along g next cs) (each at c bytes.0 p.0 (among_first at next high (g at c) (along g next cs) later a)) (along_heads g order each next cs bytes.1 p.1 rest)

  five : (p : Place) → level p ≤ 5
  five file = omega arith
  five user_data = omega arith
  five moov = omega arith
  five trak = omega arith
  five mdia = omega arith
  five minf = omega arith
  five stbl = omega arith
  five dinf = omega arith

  one_head : (p : Place) (at : ℕ) (c : Chunk) → opens p c.id (take 4 c.body) ≡ None → InOrder at (chunk_at p at c ∷ []) (at + length (spell c)) → Among at (chunk_at p at c ∷ []) (at + length (spell c)) → SameHeads (chunk_at p at c ∷ [])
  one_head p at c e h a =
      ap (λ (z : List Cut). z ++ []) (closed_head p at c e (grown_here at (at + length (spell c)) (chunk_at p at c ∷ []) h a) ∙ ap (law_head p at c) (sym e))

  -- The headers of a plan are those of the definitions.
  pub heads_told : (d : ℕ) (p : Place) (at : ℕ) (c : Chunk) → level p ≤ d → IsBytes c.body → AllByRecursion StepFine (walk format d p at c) → Among at (walk format d p at c) (at + length (spell c)) → SameHeads (walk format d p at c)
  unfolding walk
  heads_told zero p at c le bytes fine a = go (opens p c.id (take 4 c.body)) refl
    where
      go : (o : Option Place) → opens p c.id (take 4 c.body) ≡ o → SameHeads (chunk_at p at c ∷ [])
      go None e = one_head p at c e (walk_order zero p at c bytes fine) a
      go (Some q) e = absurd (omega (arith, deeper p q c.id (take 4 c.body) e, le))
  heads_told (suc d) p at c le bytes fine a = go (opens p c.id (take 4 c.body)) refl fine a (walk_order (suc d) p at c bytes fine) (λ q b k l y f m. heads_told d q b k l y f m)
    where
      go : (o : Option Place) → opens p c.id (take 4 c.body) ≡ o → AllByRecursion StepFine (chunk_at p at c ∷ walk_at format (walk format d) at c o)
          → Among at (chunk_at p at c ∷ walk_at format (walk format d) at c o) (at + length (spell c)) → InOrder at (walk format (suc d) p at c) (at + length (spell c))
          → ((q : Place) (b : ℕ) (k : Chunk) → level q ≤ d → IsBytes k.body → AllByRecursion StepFine (walk format d q b k) → Among b (walk format d q b k) (b + length (spell k)) → SameHeads (walk format d q b k))
          → SameHeads (chunk_at p at c ∷ walk_at format (walk format d) at c o)
      go None e f a order again =
          let same : InOrder at (chunk_at p at c ∷ walk_at format (walk format d) at c None) (at + length (spell c)) = subst (λ (o : Option Place). InOrder at (chunk_at p at c ∷ walk_at format (walk format d) at c o) (at + length (spell c))) e order in
          one_head p at c e same a
      go (Some q) e f a order again =
          let s = chunk_at p at c in
          let high = at + length (spell c) in
          let r = kids format q c in
          let from = body_at at c + 0 in
          let mid = from + length (spell_all r.chunks) in
          let stop = end_at q (body_at at c + (0 + length (spell_all r.chunks))) r.stop in
          let inner = along (walk format d q) from r.chunks in
          let whole : InOrder at (s ∷ (inner ++ stop ∷ [])) high = subst (λ (o : Option Place). InOrder at (s ∷ walk_at format (walk format d) at c o) high) e order in
          let joined : spell_all r.chunks ++ r.left ≡ c.body = chunks_joined atom_front atoms_give_back inside c.body bytes in
          let some = spell_some at c in
          let room : mid ≤ high = omega (arith, some.1, ap length joined, length-append (spell_all r.chunks) r.left) in
          let kid_bytes = bytes_of r.chunks r.left (rw joined bytes) in
          let parts = all_parts StepFine inner (stop ∷ []) f.1 in
          let down = deeper p q c.id (take 4 c.body) e in
          let none : AllByRecursion (EndsBy from) (step_tables s) = subst (AllByRecursion (EndsBy from)) (sym (no_tables p q at c e)) tt in
          let first : InOrder at (s ∷ []) from = (omega arith, (from, (omega (arith, some.0), omega (arith, some.0), none, omega arith))) in
          let last : InOrder mid (stop ∷ []) high = (tt, (mid, (omega arith, tt, tt, room))) in
          let behind = among_second at from high (s ∷ []) (inner ++ stop ∷ []) first a in
          let kids_in = among_first from mid high inner (stop ∷ []) last behind in
          let kids_same = along_heads (walk format d q) (λ b k y g. walk_order d q b k y g) (λ b k y g m. again q b k (omega (arith, down, le)) y g m) from r.chunks kid_bytes parts.0 kids_in in
          let whole_growth : grown_from at high ≡ grown_in p c
          = grown_here at high (s ∷ (inner ++ stop ∷ [])) whole a ∙ ap (λ (o : Option Place). rows_growth (s ∷ walk_at format (walk format d) at c o)) (sym e) ∙ walk_same (suc d) 5 p at 0 c le (five p) in
          let head : plan_head p at c ≡ law_head p at c (opens p c.id (take 4 c.body)) = opened_head p q at c e whole_growth ∙ ap (law_head p at c) (sym e) in
          ap (λ (z : List Cut). z ++ flat_map plan_heads (inner ++ stop ∷ [])) head ∙ ap (λ (z : List Cut). law_head p at c (opens p c.id (take 4 c.body)) ++ z) (same_both inner (stop ∷ []) kids_same refl)

-- A closed tree is taken, whatever the order of its lines, if children come before their parents.
use Rattle.std.specs.Prelude.{slice_get}
use Rattle.std.proofs.Common.{◌≡◌, ℕ, zero, suc, ◌+◌, ◌<◌, ◌≤◌, min, Bool, true, not, List, [], ◌∷◌, ◌++◌, length, get_or, Some, None, Ok, Err, Result, sym, refl, ap, ◌∙◌, subst, arith}
use Rattle.std.proofs.lemmas.List.{get_or_push, length_push}
use Rattle.refusals.specs.declared.Refusal.{Refusal}
use Rattle.refusals.proofs.Clearing.{clear, cleared, none_when}
use Rattle.register.specs.Registers.{room}
use Rattle.bits.specs.Bits.{has}
use Rattle.bits.specs.Among.{among}
use Rattle.calculus.specs.Calculi.{Calculus}
use Rattle.book.specs.declared.filing.Draft.{Draft}
use Rattle.book.specs.declared.line.Line.{Line}
use Rattle.book.specs.Lines.{cited, citing, blank_line, label_of}
use Rattle.book.specs.Drafts.{members, label, line_of, Admitted}
use Rattle.book.proofs.Admitting.{no_check, citing_stands}
use Rattle.docket.specs.declared.Docket.{Docket}
use Rattle.docket.specs.declared.phase.Phase.{Phase}
use Rattle.docket.specs.declared.phase.Subject.TheVariants.{Line as LineSubject}
use Rattle.docket.specs.Phases.{admits}
use Rattle.docket.specs.Dockets.{count, lines}
use Rattle.docket.specs.Calls.{line, all_checks, checks, refusal, Acts}
use Rattle.docket.specs.Runs.{Event, any, Ran}
use Rattle.docket.proofs.Reaching.{reached_kept}
use Rattle.facts.specs.Events.{Each, Interleaved}
use Rattle.facts.specs.Trees.{Tree, leaf, one, two, root, nodes, Applied, Carries, Closed}
use Rattle.facts.specs.Proper.{Proper}
use Rattle.facts.specs.Filing.{node_of, IsWhole, filing, Cites, FiledBy, leaf_filed, one_filed, two_filed, Taken, StandsWith, free, ClosedTreesAreTaken}
use Rattle.facts.proofs.Growing.{words}
use Rattle.facts.proofs.Members.{in_row, row_is, all_stand, none_falling}
use Rattle.facts.proofs.Interleaving.{swapped, regrouped, length_interleaved, split, ran_split, each_split, each_push, each_interleaved, each_map, sum, sum_append, sum_interleaved, sum_short}
use Rattle.facts.proofs.Steady.{IsSteady, weight, weight_small, all_nothing, Good, Later, acts_later, run_later, still_taken, still_stands}

-- filings are steady, and as many as nodes
line_steady : (k : Calculus) (f : Draft) (a : Result ℕ Refusal) → IsSteady (filing k f a)
line_steady k f (Ok i) = tt
line_steady k f (Err x) = tt

filed_steady : (k : Calculus) {u : Tree} {xs : List Event} {a : Result ℕ Refusal} → FiledBy k u xs a → Each IsSteady xs
filed_steady k (leaf_filed f a whole p q) = (line_steady k f a, tt)
filed_steady k (one_filed f a {xs = xs} h whole p q) = each_push IsSteady xs (filing k f a) (filed_steady k h) (line_steady k f a)
filed_steady k (two_filed f a {zs = zs} h h' i whole p q) =
    each_push IsSteady zs (filing k f a) (each_interleaved IsSteady i (filed_steady k h) (filed_steady k h')) (line_steady k f a)

pub filed_nodes : (k : Calculus) {u : Tree} {xs : List Event} {a : Result ℕ Refusal} → FiledBy k u xs a → length xs ≡ nodes u
filed_nodes k (leaf_filed f a whole p q) = refl
filed_nodes k (one_filed f a {xs = xs} h whole p q) = length_push xs (filing k f a) ∙ ap (λ n. n + 1) (filed_nodes k h)
filed_nodes k (two_filed f a {zs = zs} h h' i whole p q) =
    let m = filed_nodes k h in
    let n = filed_nodes k h' in
    let l = length_interleaved i in
    length_push zs (filing k f a) ∙ omega arith

-- a child that stands, at the place of conclusion i of draft f
pub record Child (k : Calculus) (d : Docket) (f : Draft) (i m : ℕ) : Type 0 where
  pub stands : m < length (lines d)
  pub within : (c : ℕ) → has (label_of (lines d) m) c ≡ true
      → k.concludes f.rule (words d) f.on (among (members f)) i c ≡ true

closed_stands : (k : Calculus) (d : Docket) (u : Tree) → Closed k (words d) u
    → (c : ℕ) → among (root u).label c ≡ true → c < count d
closed_stands k d (leaf n) q = q.0.stands
closed_stands k d (one n u) q = q.0.stands
closed_stands k d (two n u w) q = q.0.stands

cited_number : (m : ℕ) (a : Result ℕ Refusal) (i : ℕ) → a ≡ Ok i → Cites m a → i ≡ m
cited_number m (Ok j) i e c = cc
cited_number m (Err x) i e c = let z : ◌≡◌ {A = ℕ} 0 1 = cc in absurd (omega arith)

child : (k : Calculus) (d : Docket) (f : Draft) (i m : ℕ) (u : Tree) (a : Result ℕ Refusal) → StandsWith d (root u).label a
    → Cites m a → Carries k (words d) (node_of f) i (root u) → Closed k (words d) u → Child k d f i m
child k d f i m u a s cites carries closed = subst (Child k d f i) (cited_number m a s.number s.answered cites) (record {
  stands = s.stands;
  within = λ c h.
      let in_child = in_row (root u).label c (ap (λ x. has x c) (sym s.has_label) ∙ h) in
      sym (carries c (closed_stands k d u closed c in_child)) ∙ in_child;
})

-- each child at the place of its conclusion, of as many as are cited
abbrev Children : Calculus → Docket → Draft → ℕ → Type 0
Children k d f n = (i m : ℕ) → slice_get (cited (citing n f.m f.n)) i ≡ Some m → Child k d f i m

no_child : (k : Calculus) (d : Docket) (f : Draft) → Children k d f 0
no_child k d f i m h = let z : ◌≡◌ {A = ℕ} 0 1 = cc in absurd (omega arith)

one_child : (k : Calculus) (d : Docket) (f : Draft) → Child k d f 0 f.m → Children k d f 1
one_child k d f c zero m h = let e : f.m ≡ m = cc in subst (Child k d f 0) e c
one_child k d f c (suc i) m h = let z : ◌≡◌ {A = ℕ} 0 1 = cc in absurd (omega arith)

two_children : (k : Calculus) (d : Docket) (f : Draft) → Child k d f 0 f.m → Child k d f 1 f.n → Children k d f 2
two_children k d f c c' zero m h = let e : f.m ≡ m = cc in subst (Child k d f 0) e c
two_children k d f c c' (suc zero) m h = let e : f.n ≡ m = cc in subst (Child k d f 1) e c'
two_children k d f c c' (suc (suc i)) m h = let z : ◌≡◌ {A = ℕ} 0 1 = cc in absurd (omega arith)

module _ (k : Calculus) (proper : Proper k) where
  -- a draft whose step applies, and whose children stand
  record Ready (d : Docket) (f : Draft) : Type 0 where
    applied : Applied k (words d) (node_of f)
    whole : IsWhole f
    first_unused : k.cites f.rule < 1 → f.m ≡ 0
    second_unused : k.cites f.rule < 2 → f.n ≡ 0
    first_stands : 0 < k.cites f.rule → f.m < length (lines d)
    second_stands : 1 < k.cites f.rule → f.n < length (lines d)
    as_many : length (cited (citing (k.cites f.rule) f.m f.n)) ≡ min 2 (k.cites f.rule)
    children : Children k d f (k.cites f.rule)

  ready_admitted : (d : Docket) (f : Draft) → Good d → length (lines d) < room d.book → Ready d f
      → Admitted k (words d) (lines d) (room d.book) f
  ready_admitted d f good space r =
      let t = words d in
      let label_is : has (label f) ≡ among (members f) =
      row_is (members f) (λ c h. let l = r.applied.stands c h in let few = good.kept.few_concepts in omega arith) in
      let ps = (proper f.rule).principals_stand t f.on (among (members f)) good.kept r.applied.stands r.applied.applies in
      record {
        known = r.applied.known;
        first_unused = r.first_unused;
        second_unused = r.second_unused;
        whole = r.whole;
        p_stands = ps.0;
        q_stands = ps.1;
        s_stands = ps.2;
        first_stands = r.first_stands;
        second_stands = r.second_stands;
        members_stand = all_stand (count d) (members f) r.applied.stands;
        free = space;
        rising = none_falling (members f) r.applied.rising;
        licensed = record {
          applies = subst (λ (X : ℕ → Bool). k.applies f.rule t f.on X ≡ true) (sym label_is) r.applied.applies;
          cites = r.as_many;
          stand = citing_stands (k.cites f.rule) f.m f.n (length (lines d)) r.first_stands r.second_stands;
          within = λ i m at c l h.
              subst (λ (X : ℕ → Bool). k.concludes f.rule t f.on X i c ≡ true) (sym label_is) ((r.children i m at).within c h);
        };
      }

  -- an admitted draft is taken
  admitted_refusal : (d : Docket) (f : Draft) → Good d → Admitted k (words d) (lines d) (room d.book) f
      → refusal (line k f) d ≡ None
  admitted_refusal d f good a = cleared (all_checks (line k f) d) (
    none_when (not (admits d.phase LineSubject)) _ (ap (λ (p : Phase). not (admits p LineSubject)) good.sealed),
    clear (checks (line k f) d) (no_check k (words d) (lines d) (room d.book) f a),
  )

  admitted_taken : (a : Result ℕ Refusal) (d e : Docket) (f : Draft) → refusal (line k f) d ≡ None → Acts (line k f) d a e
      → Taken k e (filing k f a) × StandsWith e (members f) a
  admitted_taken (Err x) d e f none h = let z : ◌≡◌ {A = ℕ} 0 1 = cc (none, h.0) in absurd (omega arith)
  admitted_taken (Ok i) d e f none h =
      let x = line_of k f in
      let more = h.1.1.3 in
      let there : i < length (lines e) = omega (arith, ap length more, length_push (lines d) x, h.1.1.0) in
      let is : get_or (lines e) i blank_line ≡ x =
      ap (λ ls. get_or ls i blank_line) more ∙ get_or_push (lines d) x blank_line i (sym h.1.1.0) in (
        record { draft = f; number = i; answered = refl; stands = there; as_drafted = is },
        record { number = i; answered = refl; stands = there; has_label = ap (λ (y : Line). y.label) is },
      )

  -- the moment of a filing: zs are the filings of the tree before it
  record Moment (zs : List Event) (f : Draft) (a : Result ℕ Refusal) (d e : Docket) : Type 0 where
    here : Docket
    next : Docket
    early : List Event
    run : List Event
    earlier : Interleaved zs early run
    steady : Each IsSteady early
    ran : Ran any d run here
    few : length zs + sum weight early ≤ free d
    before : Later k proper (sum weight run) d here
    acts : Acts (line k f) here a next
    between : ℕ
    after : Later k proper between next e
    space : length (lines here) < room here.book

  moment : (zs : List Event) (f : Draft) (a : Result ℕ Refusal) (d e : Docket) (os run : List Event) → Each IsSteady zs
      → Interleaved (zs ++ filing k f a ∷ []) os run → Each IsSteady os → Good d
      → length (zs ++ filing k f a ∷ []) + sum weight os ≤ free d → Ran any d run e → Moment zs f a d e
  moment zs f a d e os run steady i others good few ran =
      let x = filing k f a in
      let s = split i zs x refl in
      let parts = each_split IsSteady s.early s.after (subst (Each IsSteady) s.others_are others) in
      let r = ran_split any s.before (x ∷ s.after) d e (subst (λ (ys : List Event). Ran any d ys e) s.run_is ran) in
      let before = run_later k proper s.before d r.0 (each_interleaved IsSteady s.earlier steady parts.0) good r.1 in
      let then = acts_later k proper (line k f) a r.0 r.2.0 (line_steady k f a) before.good r.2.2 in
      let after = run_later k proper s.after r.2.0 e parts.1 then.good r.2.3 in
      let few_before : length zs + sum weight s.early + 1 ≤ free d =
      omega (arith, length_push zs x, ap (sum weight) s.others_are, sum_append weight s.early s.after) in
      record {
        here = r.0;
        next = r.2.0;
        early = s.early;
        run = s.before;
        earlier = s.earlier;
        steady = parts.0;
        ran = r.1;
        few = omega arith;
        before = before;
        acts = r.2.2;
        between = sum weight s.after;
        after = after;
        space = omega (arith, before.few, before.same_room, sum_interleaved weight s.earlier, sum_short weight weight_small zs);
      }

  -- what is filed when it is ready is taken, and stays
  finish : (zs : List Event) (f : Draft) (a : Result ℕ Refusal) (d e : Docket) (m : Moment zs f a d e)
      → Each (Taken k m.here) zs → Ready m.here f → Each (Taken k e) (zs ++ filing k f a ∷ []) × StandsWith e (members f) a
  finish zs f a d e m old ready =
      let good = m.before.good in
      let clears = admitted_refusal m.here f good (ready_admitted m.here f good m.space ready) in
      let now = admitted_taken a m.here m.next f clears m.acts in
      let then = acts_later k proper (line k f) a m.here m.next (line_steady k f a) good m.acts in
      let stay = still_taken k proper m.between m.next e m.after in (
        each_push (Taken k e) zs (filing k f a)
            (each_map (Taken k m.here) (Taken k e) (λ x h. stay x (still_taken k proper _ m.here m.next then x h)) zs old)
            (stay (filing k f a) now.0),
        still_stands k proper m.between m.next e m.after (members f) a now.1,
      )

  -- as many lines are cited as there are conclusions
  as_many_as : (f : Draft) (n : ℕ) → length (cited (citing n f.m f.n)) ≡ min 2 n → k.cites f.rule ≡ n
      → length (cited (citing (k.cites f.rule) f.m f.n)) ≡ min 2 (k.cites f.rule)
  as_many_as f n h e = subst (λ (j : ℕ). length (cited (citing j f.m f.n)) ≡ min 2 j) (sym e) h

  tree_taken : {u : Tree} {xs : List Event} {a : Result ℕ Refusal} → FiledBy k u xs a → (d e : Docket) (os run : List Event)
      → Interleaved xs os run → Each IsSteady os → Good d → Closed k (words d) u → length xs + sum weight os ≤ free d
      → Ran any d run e → Each (Taken k e) xs × StandsWith e (root u).label a
  tree_taken (leaf_filed f a whole p q) d e os run i others good closed few ran =
      let m = moment [] f a d e os run tt i others good few ran in
      let c = m.before.closed (leaf (node_of f)) closed in
      let z = c.1 in
      finish [] f a d e m tt (record {
        applied = c.0;
        whole = whole;
        first_unused = λ l. p;
        second_unused = λ l. q;
        first_stands = λ l. absurd (omega arith);
        second_stands = λ l. absurd (omega arith);
        as_many = as_many_as f 0 refl z;
        children = subst (Children k m.here f) (sym z) (no_child k m.here f);
      })
  tree_taken (one_filed f a {u = u} {xs = xs} {b = b} h whole p q) d e os run i others good closed few ran =
      let m = moment xs f a d e os run (filed_steady k h) i others good few ran in
      let c = m.before.closed (one (node_of f) u) closed in
      let z = c.1 in
      let kid = tree_taken h d m.here m.early m.run m.earlier m.steady good closed.3 m.few m.ran in
      let first = child k m.here f 0 f.m u b kid.1 p c.2 c.3 in
      finish xs f a d e m kid.0 (record {
        applied = c.0;
        whole = whole;
        first_unused = λ l. absurd (omega arith);
        second_unused = λ l. q;
        first_stands = λ l. first.stands;
        second_stands = λ l. absurd (omega arith);
        as_many = as_many_as f 1 refl z;
        children = subst (Children k m.here f) (sym z) (one_child k m.here f first);
      })
  tree_taken (two_filed f a {u = u} {w = w} {xs = xs} {ys = ys} {zs = zs} {b = b} {c = b'} h h' j whole p q) d e os run i others
      good closed few ran =
      let all = filed_steady k h in
      let all' = filed_steady k h' in
      let m = moment zs f a d e os run (each_interleaved IsSteady j all all') i others good few ran in
      let c = m.before.closed (two (node_of f) u w) closed in
      let z = c.1 in
      let long = length_interleaved j in
      let few_early = m.few in
      let (rest, with-ys, xs-in) = regrouped m.earlier j in
      let (rest', with-xs, ys-in) = regrouped m.earlier (swapped j) in
      let l : length xs + sum weight rest ≤ free d =
      omega (arith, sum_interleaved weight with-ys, sum_short weight weight_small ys) in
      let l' : length ys + sum weight rest' ≤ free d =
      omega (arith, sum_interleaved weight with-xs, sum_short weight weight_small xs) in
      let quiet = each_interleaved IsSteady with-ys all' m.steady in
      let quiet' = each_interleaved IsSteady with-xs all m.steady in
      let kid = tree_taken h d m.here rest m.run xs-in quiet good closed.4 l m.ran in
      let kid' = tree_taken h' d m.here rest' m.run ys-in quiet' good closed.5 l' m.ran in
      let first = child k m.here f 0 f.m u b kid.1 p c.2 c.4 in
      let second = child k m.here f 1 f.n w b' kid'.1 q c.3 c.5 in
      finish zs f a d e m (each_interleaved (Taken k m.here) j kid.0 kid'.0) (record {
        applied = c.0;
        whole = whole;
        first_unused = λ s. absurd (omega arith);
        second_unused = λ s. absurd (omega arith);
        first_stands = λ s. first.stands;
        second_stands = λ s. second.stands;
        as_many = as_many_as f 2 refl z;
        children = subst (Children k m.here f) (sym z) (two_children k m.here f first second);
      })

pub trees_are_taken : ClosedTreesAreTaken
trees_are_taken k proper d reached sealed u closed space run o e ran =
    let (steady, none) = all_nothing o.others o.nothing_else in
    let many = filed_nodes k o.in_order in
    let good : Good d = record { kept = reached_kept any d reached; sealed = sealed } in
    tree_taken k proper o.in_order d e o.others run o.between steady good closed (omega arith) ran

-- What is noted stays so, whatever is added.
use Rattle.std.proofs.Common.{◌≡◌, ◌⊎◌, inl, inr, ℕ, zero, suc, ◌+◌, ◌*◌, ◌<◌, ◌≤◌, ◌++◌, List, [], ◌∷◌, length, get_or, slice_get, Some, Contains, refl, sym, ap, ◌∙◌, subst, arith, length-append}
use Rattle.std.specs.declared.vec.Vec.{Vec}
use Rattle.std.specs.declared.alloc.Global.{Global}
use Rattle.std.proofs.lemmas.Bool.{cases_lt}
use Rattle.std.proofs.lemmas.List.{get_or_append_left, get_or-append-add}
use Rattle.finite_sets.proofs.Lists.{Contains-none}
use Rattle.recognizer_model.specs.declared.thread.Thread.{Thread}
use Rattle.recognizer_model.specs.Flat.{FlatGrammar}
use Rattle.threads.specs.Lists.{list_at, IsGrown, AreThreads, AreParts}
use Rattle.threads.specs.Steps.{IsReadBy, IsNext, IsBegin}
use Rattle.threads.proofs.Parts.{grown_same, grown_on, grown_long, grown_at, grown_added, threads_later}
use Rattle.lexer.specs.declared.kinds.Kind.{Kind}
use Rattle.lexer.specs.declared.machine.Machine.{Machine}
use Rattle.lexer.specs.Terminals.{ClassRows}
use Rattle.jagged.specs.Rows.{row_at}
use Rattle.lexer.specs.Machines.{IsNoted, HasBegin, AreKinds, IsStepBy, IsNotedStep, AreStates, IsMachine, Goes}

-- ---- lists of rows

threads_more : (g : FlatGrammar) (n : ℕ) (old new : List (List Thread)) (row : List Thread) → ((s : ℕ) → AreThreads g n (list_at old s)) → AreThreads g n row → (new ≡ old) ⊎ (new ≡ old ++ row ∷ []) → (s : ℕ) → AreThreads g n (list_at new s)
threads_more g n old new row are is (inl e) s = subst (λ l. AreThreads g n (list_at l s)) (sym e) (are s)
threads_more g n old new row are is (inr e) s = elim (cases_lt s (length old)) [
  | inl lt ↦ subst (AreThreads g n) (sym (grown_at old new (row ∷ [], e) s lt)) (are s)
  | inr ge ↦ elim (cases_lt (length old) s) [
    | inl beyond ↦ λ th h. absurd (Contains-none th (subst (λ l. Contains l th) (past new s (let l = long in omega arith)) h))
    | inr le ↦
        let same : length old + 0 ≡ s = omega arith in
        let at : list_at new (length old + 0) ≡ row = ap (λ l. get_or l (length old + 0) []) e ∙ get_or-append-add old (row ∷ []) 0 [] in
        subst (λ z. AreThreads g n (list_at new z)) same (subst (AreThreads g n) (sym at) is)
  ]
]
  where
    long : length new ≡ length old + 1
    long = ap length e ∙ length-append old (row ∷ [])

    past : (xs : List (List Thread)) (k : ℕ) → length xs ≤ k → list_at xs k ≡ []
    past [] k le = refl
    past (x ∷ xs) zero le = absurd (omega arith)
    past (x ∷ xs) (suc k) le = past xs k (omega arith)

next_later : (g : FlatGrammar) (old new : List (List Thread)) (Reads : ℕ → Type 0) (row set to : List Thread) → IsGrown old new → IsNext g old Reads row set to → IsNext g new Reads row set to
next_later g old new Reads row set to grown is = record { keeps = is.keeps; steps = λ later more. is.steps later (grown_on old new later grown more) }

pub begin_later : (g : FlatGrammar) (old new : List (List Thread)) (starts : List ℕ) (set to : List Thread) → IsGrown old new → IsBegin g old starts set to → IsBegin g new starts set to
begin_later g old new starts set to grown is = record { keeps = is.keeps; begins = λ later more. is.begins later (grown_on old new later grown more) }

-- nothing is noted of no states
pub empty_machine : (g : FlatGrammar) (classes : List (List ℕ)) (parts rows : List (List Thread)) (kinds : List Kind) (next : List ℕ) (begins : List (Vec ℕ Global × ℕ)) →
    parts ≡ [] → rows ≡ [] → kinds ≡ [] → next ≡ [] → begins ≡ [] → AreStates g classes parts rows kinds next begins
empty_machine g classes parts rows kinds next begins p r k n b = record {
  parts = subst (AreParts g) (sym p) (λ s th h. absurd (Contains-none th h));
  rows = λ s. subst (λ (l : List (List Thread)). AreThreads g (length parts) (list_at l s)) (sym r) (λ th h. absurd (Contains-none th h));
  kinds = subst (λ (l : List (List Thread)). AreKinds g l kinds) (sym r) (subst (AreKinds g []) (sym k) (record { long = refl; each = λ s d lt. absurd (omega arith) }));
  next = λ s c t lt noted. (let e = subst (λ (l : List ℕ). IsNoted l s c t) n noted in absurd (none (s * 128 + c) t e.0));
  begins = λ starts s has. (let (v, there, same) = subst (λ (l : List (Vec ℕ Global × ℕ)). HasBegin l starts s) b has in absurd (Contains-none (v, s) there));
}
  where
    none : (k t : ℕ) → slice_get [] k ≡ Some t → ⊥
    none k t e = cc

module _ (m : Machine) (is : IsMachine m) where
  pub with_classes : (classes : ClassRows) → classes.sets ≡ m.classes.sets → ((more : List (List ℕ)) × (classes.rows ≡ m.classes.rows ++ more)) → IsMachine (record m { classes = classes })
  with_classes classes same (more, e) = record {
    parts = is.parts;
    rows = is.rows;
    kinds = is.kinds;
    next = λ s c t lt noted. (
        let n = is.next s c t lt noted in
        let long : length classes.rows ≡ length m.classes.rows + length more = ap length e ∙ length-append m.classes.rows more in
        let at : row_at classes.rows c ≡ row_at m.classes.rows c = ap (λ l. get_or l c []) e ∙ get_or_append_left m.classes.rows more [] c n.by_class in
        record {
          from = n.from;
          by_class = (let b = n.by_class in omega arith);
          to = n.to;
          steps = subst (λ ts. (set : List Thread) × IsNext m.flat.now m.parts (IsReadBy m.flat.now ts) (list_at m.rows s) set (list_at m.rows t)) (sym at) n.steps;
        });
    begins = is.begins;
  }

  pub with_parts : (parts : List (List Thread)) → IsGrown m.parts parts → AreParts m.flat.now parts → IsMachine (record m { parts = parts })
  with_parts parts grown are = record {
    parts = are;
    rows = λ s. threads_later m.flat.now (length m.parts) (length parts) (list_at m.rows s) (grown_long m.parts parts grown) (is.rows s);
    kinds = is.kinds;
    next = λ s c t lt noted. (
        let n = is.next s c t lt noted in
        let (set, step) = n.steps in
        record { from = n.from; by_class = n.by_class; to = n.to; steps = (set, next_later m.flat.now m.parts parts (IsReadBy m.flat.now (row_at m.classes.rows c)) (list_at m.rows s) set (list_at m.rows t) grown step) });
    begins = λ starts s has. (let (lt, (set, b)) = is.begins starts s has in (lt, (set, begin_later m.flat.now m.parts parts starts set (list_at m.rows s) grown b)));
  }

  pub with_rows : (rows : List (List Thread)) (kinds : Vec Kind Global) (row : List Thread) → AreThreads m.flat.now (length m.parts) row → (rows ≡ m.rows) ⊎ (rows ≡ m.rows ++ row ∷ []) → AreKinds m.flat.now rows kinds.items → IsMachine (record m { rows = rows; kinds = kinds })
  with_rows rows kinds row are added of = record {
    parts = is.parts;
    rows = threads_more m.flat.now (length m.parts) m.rows rows row is.rows are added;
    kinds = of;
    next = λ s c t lt noted. (
        let n = is.next s c t lt noted in
        let grown = grown_added m.rows rows row added in
        let long = grown_long m.rows rows grown in
        record {
          from = (let f = n.from in omega arith);
          by_class = n.by_class;
          to = (let f = n.to in omega arith);
          steps =
              subst (λ z. (set : List Thread) × IsNext m.flat.now m.parts (IsReadBy m.flat.now (row_at m.classes.rows c)) z set (list_at rows t)) (sym (grown_at m.rows rows grown s n.from))
              (subst (λ z. (set : List Thread) × IsNext m.flat.now m.parts (IsReadBy m.flat.now (row_at m.classes.rows c)) (list_at m.rows s) set z) (sym (grown_at m.rows rows grown t n.to)) n.steps);
        });
    begins = λ starts s has. (
        let (lt, b) = is.begins starts s has in
        let grown = grown_added m.rows rows row added in
        let long = grown_long m.rows rows grown in
        (omega arith, subst (λ z. (set : List Thread) × IsBegin m.flat.now m.parts starts set z) (sym (grown_at m.rows rows grown s lt)) b));
  }

  pub with_next : (next : Vec ℕ Global) (state class to : ℕ) → ((s c t : ℕ) → c < 128 → IsNoted next.items s c t → IsNoted m.next.items s c t ⊎ ((s ≡ state) × (c ≡ class) × (t ≡ to))) → IsNotedStep m state class to → IsMachine (record m { next = next })
  with_next next state class to noted step = record {
    parts = is.parts;
    rows = is.rows;
    kinds = is.kinds;
    next = λ s c t lt h. elim (noted s c t lt h) [
      | inl o ↦ (let n = is.next s c t lt o in record { from = n.from; by_class = n.by_class; to = n.to; steps = n.steps })
      | inr (a, b, e) ↦ subst (λ z. IsNotedStep (record m { next = next }) z c t) (sym a) (subst (λ z. IsNotedStep (record m { next = next }) state z t) (sym b) (subst (λ z. IsNotedStep (record m { next = next }) state class z) (sym e) (record { from = step.from; by_class = step.by_class; to = step.to; steps = step.steps })))
    ];
    begins = is.begins;
  }

-- ---- a state is made

module _ (m : Machine) (is : IsMachine m) where
  pub made_same : Goes m m
  made_same = record { is = is; form = refl; parts = grown_same m.parts; rows = grown_same m.rows }

  pub made_classes : (classes : ClassRows) → classes.sets ≡ m.classes.sets → ((more : List (List ℕ)) × (classes.rows ≡ m.classes.rows ++ more)) → Goes m (record m { classes = classes })
  made_classes classes same grown = record {
    is = with_classes m is classes same grown;
    form = ap (λ s. record { flat = m.flat.now; sets = s }) same;
    parts = grown_same m.parts;
    rows = grown_same m.rows;
  }

  module _ (parts : List (List Thread)) (grown : IsGrown m.parts parts) (are : AreParts m.flat.now parts) where
    pub made_parts : Goes m (record m { parts = parts })
    made_parts = record { is = with_parts m is parts grown are; form = refl; parts = grown; rows = grown_same m.rows }

    module _ (rows : List (List Thread)) (kinds : Vec Kind Global) (row : List Thread) (threads : AreThreads m.flat.now (length parts) row) (added : (rows ≡ m.rows) ⊎ (rows ≡ m.rows ++ row ∷ [])) (of : AreKinds m.flat.now rows kinds.items) where
      pub made_rows : Goes m (record m { parts = parts; rows = rows; kinds = kinds })
      made_rows = record {
        is = with_rows (record m { parts = parts }) (with_parts m is parts grown are) rows kinds row threads added of;
        form = refl;
        parts = grown;
        rows = grown_added m.rows rows row added;
      }

      module _ (state class to : ℕ) (from : state < length m.rows) (by_class : class < length m.classes.rows) (there : to < length rows) (at : list_at rows to ≡ row)
          (step : (set : List Thread) × IsNext m.flat.now parts (IsReadBy m.flat.now (row_at m.classes.rows class)) (list_at m.rows state) set row) where
        pub made_step : IsStepBy (record m { parts = parts; rows = rows; kinds = kinds }) state class to
        made_step =
            let (set, next) = step in (
              set,
              subst (λ z. IsNext m.flat.now parts (IsReadBy m.flat.now (row_at m.classes.rows class)) z set (list_at rows to)) (sym (grown_at m.rows rows (grown_added m.rows rows row added) state from))
                  (subst (λ z. IsNext m.flat.now parts (IsReadBy m.flat.now (row_at m.classes.rows class)) (list_at m.rows state) set z) (sym at) next),
            )

        pub made_next : (next : Vec ℕ Global) → ((s c t : ℕ) → c < 128 → IsNoted next.items s c t → IsNoted m.next.items s c t ⊎ ((s ≡ state) × (c ≡ class) × (t ≡ to))) →
            Goes m (record m { parts = parts; rows = rows; kinds = kinds; next = next })
        made_next next noted = record {
          is =
              with_next (record m { parts = parts; rows = rows; kinds = kinds }) (with_rows (record m { parts = parts }) (with_parts m is parts grown are) rows kinds row threads added of) next state class to noted
              (record { from = (let long = grown_long m.rows rows (grown_added m.rows rows row added) in omega arith); by_class = by_class; to = there; steps = made_step });
          form = refl;
          parts = grown;
          rows = grown_added m.rows rows row added;
        }

-- ---- a state of no text is made

module _ (m : Machine) (is : IsMachine m) (rows : List (List Thread)) (kinds : Vec Kind Global) (row : List Thread) (threads : AreThreads m.flat.now (length m.parts) row) (added : (rows ≡ m.rows) ⊎ (rows ≡ m.rows ++ row ∷ [])) (of : AreKinds m.flat.now rows kinds.items) where
  pub begun_rows : Goes m (record m { rows = rows; kinds = kinds })
  begun_rows = record { is = with_rows m is rows kinds row threads added of; form = refl; parts = grown_same m.parts; rows = grown_added m.rows rows row added }

  module _ (starts : List ℕ) (to : ℕ) (there : to < length rows) (at : list_at rows to ≡ row) (begins : (set : List Thread) × IsBegin m.flat.now m.parts starts set row) where
    pub begun_at : (set : List Thread) × IsBegin m.flat.now m.parts starts set (list_at rows to)
    begun_at = subst (λ z. (set : List Thread) × IsBegin m.flat.now m.parts starts set z) (sym at) begins

    -- the begins that are noted
    pub begun_begins : (entries : List (Vec ℕ Global × ℕ)) → ((list : List ℕ) (s : ℕ) → HasBegin entries list s → HasBegin m.begins list s ⊎ ((list ≡ starts) × (s ≡ to))) →
        (list : List ℕ) (s : ℕ) → HasBegin entries list s → (s < length rows) × ((set : List Thread) × IsBegin m.flat.now m.parts list set (list_at rows s))
    begun_begins entries noted list s has = elim (noted list s has) [
      | inl o ↦ (with_rows m is rows kinds row threads added of).begins list s o
      | inr (a, b) ↦
          subst (λ z. (s < length rows) × ((set : List Thread) × IsBegin m.flat.now m.parts z set (list_at rows s))) (sym a)
          (subst (λ z. (z < length rows) × ((set : List Thread) × IsBegin m.flat.now m.parts starts set (list_at rows z))) (sym b) (there, begun_at))
    ]

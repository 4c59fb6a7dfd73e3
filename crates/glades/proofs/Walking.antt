-- What links tell of the walks from nodes.
use Rattle.std.proofs.Common.{◌≡◌, ℕ, ◌<◌, Bool, true, false, List, [], ◌∷◌, length, inl, inr, Option, Some, None, refl, sym, ap, ◌∙◌, subst}
use Rattle.std.specs.Prelude.{slice_get}
use Rattle.std.proofs.lemmas.List.{length-map}
use Rattle.finite_sets.proofs.Lists.{get_map, get_mapped}
use Rattle.finite_sets.proofs.Members.{Among}
use Rattle.forest_model.specs.Forest.{ForestNode, Forest, IsForest}
use Rattle.bocage.specs.Readers.{node_at}
use Rattle.glade_laws.specs.Walks.{options, HasSecond}
use Rattle.glade_laws.proofs.Falling.{to_walk, falls}
use Rattle.glade_laws.proofs.Reaching.{next_there}
use Rattle.glade_laws.proofs.Choosing.{second_ends, second_here, second_next, next_second, second_some}
use Rattle.glades.specs.declared.links.Link.{Link}
use Rattle.glades.specs.declared.links.Link.TheVariants.{End, Next, Fork}
use Rattle.glades.specs.Links.{link_to, link_of, AreLinks}
use Rattle.glades.specs.Shapes.{next_of}
use Rattle.glades.proofs.Nodes.{node_there, there_node, is_alternatives}

by_end : (xs : List ℕ) → link_to xs ≡ End → xs ≡ []
by_end [] e = refl
by_end (x ∷ []) e = absurd (cc)
by_end (x ∷ y ∷ rest) e = absurd (cc)

by_next : (xs : List ℕ) (m : ℕ) → link_to xs ≡ Next m → xs ≡ m ∷ []
by_next [] m e = absurd (cc)
by_next (x ∷ []) m e = let same : x ≡ m = cc in ap (λ z. z ∷ []) same
by_next (x ∷ y ∷ rest) m e = absurd (cc)

by_fork : (xs : List ℕ) (m m' : ℕ) → link_to xs ≡ Fork m m' → (more : List ℕ) × (xs ≡ m ∷ m' ∷ more)
by_fork [] m m' e = absurd (cc)
by_fork (x ∷ []) m m' e = absurd (cc)
by_fork (x ∷ y ∷ rest) m m' e = let same : x ≡ m = cc in let same' : y ≡ m' = cc in (rest, λ i. same i ∷ same' i ∷ rest)

first_next : (xs : List ℕ) (m : ℕ) → next_of (Some (link_to xs)) ≡ Some m → (more : List ℕ) × (xs ≡ m ∷ more)
first_next [] m e = absurd (cc)
first_next (x ∷ []) m e = let same : x ≡ m = cc in ([], ap (λ z. z ∷ []) same)
first_next (x ∷ y ∷ rest) m e = let same : x ≡ m = cc in (y ∷ rest, ap (λ z. z ∷ y ∷ rest) same)

first_none : (xs : List ℕ) → next_of (Some (link_to xs)) ≡ None → xs ≡ []
first_none [] e = refl
first_none (x ∷ []) e = absurd (cc)
first_none (x ∷ y ∷ rest) e = absurd (cc)

module _ (f : Forest) (is : IsForest f) (links : List Link) (are : AreLinks f links) where
  pub links_long : length links ≡ length f.nodes
  links_long = ap (λ (l : List Link). length l) are.links_are ∙ length-map f.nodes (link_of f)

  pub link_there : (n : ℕ) → n < length f.nodes → n < length links
  link_there n lt = subst (λ k. n < k) (sym links_long) lt

  pub link_is : (n : ℕ) (l : Link) → slice_get links n ≡ Some l → link_to (options f (node_at f n)) ≡ l
  link_is n l at =
      let (node, there, e) = get_mapped (link_of f) f.nodes n l (ap (λ (ls : List Link). slice_get ls n) (sym are.links_are) ∙ at) in
      ap (link_of f) (there_node f n node there).1 ∙ e

  module _ (n : ℕ) (lt : n < length f.nodes) (l : Link) (at : slice_get links n ≡ Some l) where
    abbrev at_node : ForestNode
    at_node = node_at f n

    pub no_options : l ≡ End → options f (node_at f n) ≡ []
    no_options e = by_end (options f (node_at f n)) (link_is n l at ∙ e)

    pub one_option : (m : ℕ) → l ≡ Next m → options f (node_at f n) ≡ m ∷ []
    one_option m e = by_next (options f (node_at f n)) m (link_is n l at ∙ e)

    pub two_options : (m m' : ℕ) → l ≡ Fork m m' → (more : List ℕ) × (options f (node_at f n) ≡ m ∷ m' ∷ more)
    two_options m m' e = by_fork (options f (node_at f n)) m m' (link_is n l at ∙ e)

    pub ends : l ≡ End → HasSecond f n false
    ends e = second_ends f is are.by_rules n at_node (node_there f n lt) (no_options e)

    pub forks : (m m' : ℕ) → l ≡ Fork m m' → HasSecond f n true
    forks m m' e = let (more, o) = two_options m m' e in second_here f is are.by_rules n at_node (node_there f n lt) m m' more o

    pub from_next : (m : ℕ) → l ≡ Next m → (b : Bool) → HasSecond f m b → HasSecond f n b
    from_next m e = second_next f is are.by_rules n at_node (node_there f n lt) m (one_option m e)

    pub to_next : (m : ℕ) → l ≡ Next m → (b : Bool) → HasSecond f n b → HasSecond f m b
    to_next m e = next_second f is are.by_rules n at_node (node_there f n lt) m (one_option m e)

    pub not_end : l ≡ End → HasSecond f n true → ⊥
    not_end e = second_some f is are.by_rules n at_node (node_there f n lt) (no_options e)

  link_got : (n : ℕ) → n < length f.nodes → slice_get links n ≡ Some (link_to (options f (node_at f n)))
  link_got n lt = ap (λ (ls : List Link). slice_get ls n) are.links_are ∙ get_map (link_of f) f.nodes n (node_at f n) (node_there f n lt)

  pub next_is : (n : ℕ) → n < length f.nodes → (o : Option ℕ) (m : ℕ) → next_of (slice_get links n) ≡ o → o ≡ Some m → (more : List ℕ) × (options f (node_at f n) ≡ m ∷ more)
  next_is n lt o m e some = first_next (options f (node_at f n)) m (ap next_of (sym (link_got n lt)) ∙ e ∙ some)

  pub none_next : (n : ℕ) → n < length f.nodes → (o : Option ℕ) → next_of (slice_get links n) ≡ o → o ≡ None → options f (node_at f n) ≡ []
  none_next n lt o e none = first_none (options f (node_at f n)) (ap next_of (sym (link_got n lt)) ∙ e ∙ none)

  -- where a choice leads is a node, and nearer to the end
  pub option_in : (n : ℕ) → n < length f.nodes → (m : ℕ) → Among m (options f (node_at f n)) → m < length f.nodes
  option_in n lt m among = let (inner, there) = next_there f is n (node_at f n) (node_there f n lt) m among in (there_node f m inner there).0

  pub nearer : (n : ℕ) → n < length f.nodes → (m : ℕ) → Among m (options f (node_at f n)) → to_walk f (node_at f m).key < to_walk f (node_at f n).key
  nearer n lt m among = falls f is (node_at f n) (is_alternatives f is n lt) m among (node_at f m) (node_there f m (option_in n lt m among))

  pub first_among : (n m : ℕ) (more : List ℕ) → options f (node_at f n) ≡ m ∷ more → Among m (options f (node_at f n))
  first_among n m more e = subst (Among m) (sym e) (inl refl)

  pub second_among : (n m m' : ℕ) (more : List ℕ) → options f (node_at f n) ≡ m ∷ m' ∷ more → Among m' (options f (node_at f n))
  second_among n m m' more e = subst (Among m') (sym e) (inr (inl refl))

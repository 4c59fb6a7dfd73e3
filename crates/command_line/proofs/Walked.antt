-- Clap's walk over words takes them just where they set names once, and then its rows are those of the settings.
use Rattle.std.proofs.Common.{◌≡◌, ◌∙◌, ℕ, Bool, true, false, not, ◌&&◌, ◌||◌, refl, sym, ap, ap₂, subst, List, [], ◌∷◌, ◌++◌, map, fold, Option, Some, None, option_map, codes, bytes_eq, arith, nat_lt, true≢false, append-nil, append_assoc, IsUtf8}
use Rattle.std.specs.Prelude.{if◌then◌else◌, is_some}
use Rattle.clap.specs.declared.error.kind.ErrorKind.TheVariants.{TooManyValues}
use Rattle.std.specs.List.{list_all}
use Rattle.std.specs.Option.{option_map_or}
use Rattle.std.proofs.lemmas.Bool.Decides.{nat_tests}
use Rattle.std.proofs.lemmas.Slice.Eq.{bytes_eq-Decides}
use Rattle.language_model.specs.Building.{is_one_of}
use Rattle.clap.specs.Walk.{Held, Rule, Row, Step, Text, Waiting, Walk, after_flag, after_step, arg_by_long, reacted, idle, is_pending, long_met, option, pushed, settled, takes_values, to_positional, used, used_by_id, value, walked, walk_from, nothing_held, option_word}
use Rattle.clap.specs.Lexer.{name_and_value}
use Rattle.clap.specs.Kinds.{Kinds, or_else}
use Rattle.clap.specs.Faults.{long_fault, option_fault, positional_fault, react_fault, settle_fault, step_fault, stray_fault, turn_fault, use_fault, walk_fault, word_fault}
use Rattle.words_model.specs.Words.{Setting, set, set_job, with_value, stats, and_then, are_set_once, words_set, option_sets, is_dashed}
use Rattle.command_line.proofs.Options.{clean, clean-or, flag, flag_clash, flag_clean, job, job_by_id, job_clean, not_job, not_stats, once_only, opt, option_by_id, option_by_long, other_by_long, by_place, place, shape, stats_by_long, use_clash, use_clean}
use Rattle.words_model.proofs.Settings.{given_once, given_twice, has_name, has_name-push, same_test}
use Rattle.command_line.proofs.Rows.{flag_used, has_row-rows, job_used, option_used, rows}
use Rattle.command_line.proofs.Looks.{utf8_behind, Dashed, Plain, by_look, dashed_fault}

-- ---- where clap's walk stands

abbrev pub held_clean : Held → Bool
held_clean h = clean (settle_fault shape.rules shape.args_override_self h)

abbrev pub walk_on : Walk → List Text → Walk
walk_on w words = fold (walked shape.rules []) w words

-- no word of these is refused, and no value that is pending at their end
abbrev pub total : Walk → List Text → Bool
total w words = clean (walk_fault shape [] w words) && held_clean (walk_on w words).held

total-nil : (w : Walk) → total w [] ≡ held_clean w.held
unfolding walk_fault
total-nil w = refl

and_assoc : (a b c : Bool) → ((a && b) && c) ≡ (a && (b && c))
and_assoc true b c = refl
and_assoc false b c = refl

and_false : (b : Bool) → (b && false) ≡ false
and_false true = refl
and_false false = refl

or_false : (b : Bool) → (b || false) ≡ b
or_false true = refl
or_false false = refl

or_true : (b c : Bool) → (b || (true || c)) ≡ true
or_true true c = refl
or_true false c = refl

total-cons : (w : Walk) (word : Text) (rest : List Text) → total w (word ∷ rest) ≡ (clean (turn_fault shape [] w word) && total (walked shape.rules [] w word) rest)
unfolding walk_fault
total-cons w word rest =
    ap (λ b. b && held_clean (walk_on (walked shape.rules [] w word) rest).held) (clean-or (turn_fault shape [] w word) (walk_fault shape [] (walked shape.rules [] w word) rest))
    ∙ and_assoc (clean (turn_fault shape [] w word)) (clean (walk_fault shape [] (walked shape.rules [] w word) rest)) (held_clean (walk_on (walked shape.rules [] w word) rest).held)

-- a flag has the one value that stands for it
abbrev pub is_fine : Setting → Bool
is_fine t = not (bytes_eq t.name stats) || bytes_eq t.value (codes "true")

abbrev pub are_fine : List Setting → Bool
are_fine = list_all is_fine

unfoldable pub once : Option (List Setting) → Option (List Setting)
once None = None
once (Some ts) = if are_set_once ts then Some ts else None

abbrev pub after : List Setting → Option (List Setting) → Option (List Setting)
after ts o = once (option_map (λ us. ts ++ us) o)

-- the walk from w refuses the words where they have no settings, and else ends with their rows
abbrev pub Agrees : Walk → List Text → Option (List Setting) → Type 0
Agrees w words None = total w words ≡ false
Agrees w words (Some ts) = (total w words ≡ true) × ((settled shape.rules (walk_on w words).held).rows ≡ rows ts) × (are_fine ts ≡ true)

passes : (w x : Walk) (word : Text) (rest : List Text) (o : Option (List Setting)) → clean (turn_fault shape [] w word) ≡ true → walked shape.rules [] w word ≡ x
    → Agrees x rest o → Agrees w (word ∷ rest) o
passes w x word rest None turn to h = total-cons w word rest ∙ ap₂ (λ a b. a && b) turn (ap (λ y. total y rest) to ∙ h)
passes w x word rest (Some ts) turn to h = (
  total-cons w word rest ∙ ap₂ (λ a b. a && b) turn (ap (λ y. total y rest) to ∙ h.0),
  ap (λ y. (settled shape.rules (walk_on y rest).held).rows) to ∙ h.1,
  h.2,
)

fails : (w : Walk) (word : Text) (rest : List Text) (o : Option (List Setting)) → clean (turn_fault shape [] w word) ≡ false → o ≡ None → Agrees w (word ∷ rest) o
fails w word rest None turn e = total-cons w word rest ∙ ap (λ b. b && total (walked shape.rules [] w word) rest) turn
fails w word rest (Some ts) turn e = cc

abbrev ended : List Setting → Held
ended ts = record { rows = rows ts; pending = None; skip = 0 }

abbrev pended : List Setting → Text → List Text → Held
pended ts name values = record { rows = rows ts; pending = Some (name, values); skip = 0 }

-- what is held comes to these settings once the pending value is used
record Settles (h : Held) (ts : List Setting) : Type 0 where
  pub none : held_clean h ≡ true
  pub to : settled shape.rules h ≡ ended ts
  pub once : are_set_once ts ≡ true
  pub fine : are_fine ts ≡ true

abbrev at : Held → Bool → Bool → Waiting → Walk
at h over given waiting = record { held = h; waiting = waiting; position = place given; is_trailing = over; stopped = None }

abbrev has_job : List Setting → Bool
has_job = has_name (codes "JOB")

-- ---- what stays of settings

fine-push : (ts : List Setting) (t : Setting) → are_fine ts ≡ true → is_fine t ≡ true → are_fine (ts ++ t ∷ []) ≡ true
fine-push [] t h e = rw e refl
fine-push (s ∷ ss) t h e = go (is_fine s) refl (fine-push ss t)
  where
    go : (b : Bool) → is_fine s ≡ b → (are_fine ss ≡ true → is_fine t ≡ true → are_fine (ss ++ t ∷ []) ≡ true) → are_fine ((s ∷ ss) ++ t ∷ []) ≡ true
    go true i more = rw i (more (rw i at h) e)
    go false i more = absurd (true≢false (sym (rw i at h)))

fine_option : (name v : Text) → is_one_of with_value name ≡ true → is_fine (set name v) ≡ true
fine_option name v h = ap (λ b. not b || bytes_eq v (codes "true")) (not_stats name h)

no_job : (name v : Text) (ts : List Setting) → is_one_of with_value name ≡ true → has_job (ts ++ set name v ∷ []) ≡ has_job ts
no_job name v ts h =
    has_name-push (codes "JOB") ts (set name v ∷ []) ∙ ap (λ b. has_job ts || (b || false)) (not_job name h) ∙ or_false (has_job ts)

after-then : (ts : List Setting) (t : Setting) (o : Option (List Setting)) → after (ts ++ t ∷ []) o ≡ after ts (and_then t o)
after-then ts t None = refl
after-then ts t (Some us) = ap (λ l. once (Some l)) (append_assoc ts (t ∷ []) us)

after_twice : (ts : List Setting) (t : Setting) (o : Option (List Setting)) → has_name t.name ts ≡ true → after ts (and_then t o) ≡ None
unfolding once
after_twice ts t None e = refl
after_twice ts t (Some us) e = ap (λ b. if b then Some (ts ++ t ∷ us) else None) (given_twice ts us t e)

after_none : (ts : List Setting) → after ts None ≡ None
unfolding once
after_none ts = refl

after_end : (ts : List Setting) → are_set_once ts ≡ true → after ts (Some []) ≡ Some ts
unfolding once
after_end ts e =
    let same : ts ++ [] ≡ ts = append-nil ts in
    rw (same, e) refl

-- ---- held values

settles_option : (name v : Text) (ts : List Setting) → is_one_of with_value name ≡ true → has_name name ts ≡ false → are_set_once ts ≡ true → are_fine ts ≡ true
    → Settles (pended ts name (v ∷ [])) (ts ++ set name v ∷ [])
settles_option name v ts h new single fine = record {
  none = rw (option_by_id name h, once_only) (use_clean name v (rows ts) (has_row-rows name ts ∙ new));
  to = ap (λ (o : Option Rule). record { rows = used_by_id o (v ∷ []) (rows ts); pending = None; skip = 0 }) (option_by_id name h)
      ∙ ap (λ (rs : List Row). record { rows = rs; pending = None; skip = 0 }) (option_used name v ts h new);
  once = given_once ts (set name v) single new;
  fine = fine-push ts (set name v) fine (fine_option name v h);
}

pended_twice : (name v : Text) (ts : List Setting) → is_one_of with_value name ≡ true → has_name name ts ≡ true → held_clean (pended ts name (v ∷ [])) ≡ false
pended_twice name v ts h old = rw (option_by_id name h, once_only) (use_clash name v (rows ts) (has_row-rows name ts ∙ old))

pended_none : (name : Text) (ts : List Setting) → is_one_of with_value name ≡ true → held_clean (pended ts name []) ≡ false
pended_none name ts h = ap (λ o. clean (option_map_or (λ a. use_fault shape.args_override_self a [] (rows ts)) o [])) (option_by_id name h)

settles_job : (v : Text) (ts : List Setting) → has_job ts ≡ false → are_set_once ts ≡ true → are_fine ts ≡ true → Settles (pended ts (codes "JOB") (v ∷ [])) (ts ++ set_job v ∷ [])
settles_job v ts new single fine = record {
  none = rw (job_by_id, once_only) (job_clean v (rows ts) (has_row-rows (codes "JOB") ts ∙ new));
  to = ap (λ (o : Option Rule). record { rows = used_by_id o (v ∷ []) (rows ts); pending = None; skip = 0 }) job_by_id
      ∙ ap (λ (rs : List Row). record { rows = rs; pending = None; skip = 0 }) (job_used v ts new);
  once = given_once ts (set_job v) single new;
  fine = fine-push ts (set_job v) fine refl;
}

settles_ended : (ts : List Setting) → are_set_once ts ≡ true → are_fine ts ≡ true → Settles (ended ts) ts
settles_ended ts single fine = record { none = refl; to = refl; once = single; fine = fine }

-- ---- a word that goes to the operand

stray_clean : clean (stray_fault shape) ≡ false
stray_clean = go shape.is_leaf
  where
    go : (b : Bool) → clean (stray_fault (record shape { is_leaf = b })) ≡ false
    go true = refl
    go false = refl

pub operand_turn : (given : Bool) (h : Held) → clean (step_fault shape (place given) h value) ≡ (not given && held_clean h)
operand_turn true h =
    ap (λ o. clean (option_map_or (λ a. positional_fault shape.rules shape.args_override_self a h) o (stray_fault shape))) (by_place true) ∙ stray_clean
operand_turn false h =
    ap (λ o. clean (option_map_or (λ a. positional_fault shape.rules shape.args_override_self a h) o (stray_fault shape))) (by_place false)
    ∙ ap (λ b. clean (if b then [] else settle_fault shape.rules shape.args_override_self h)) (and_false (is_pending job h.pending))

operand_walk : (h : Held) (ts : List Setting) (word : Text) (over : Bool) (waiting : Waiting) → settled shape.rules h ≡ ended ts
    → after_step shape.rules word (at h over false waiting) h value ≡ at (pended ts (codes "JOB") (word ∷ [])) over true idle
operand_walk h ts word over waiting to =
    ap (λ o. to_positional shape.rules o word (at h over false waiting) h) (by_place false)
    ∙ ap (λ b. at (pushed (codes "JOB") word (if b then h else settled shape.rules h)) (over || false) true idle) (and_false (is_pending job h.pending))
    ∙ ap₂ (λ k b. at (pushed (codes "JOB") word k) b true idle) to (or_false over)

job_step : (over : Bool) (h : Held) (ts : List Setting) (word : Text) (rest : List Text) (o : Option (List Setting)) → Settles h ts
    → clean (turn_fault shape [] (at h over (has_job ts) idle) word) ≡ (not (has_job ts) && held_clean h)
    → walked shape.rules [] (at h over (has_job ts) idle) word ≡ after_step shape.rules word (at h over (has_job ts) idle) h value
    → ((k : Held) (us : List Setting) → Settles k us → Agrees (at k over (has_job us) idle) rest (after us o))
    → Agrees (at h over (has_job ts) idle) (word ∷ rest) (after ts (and_then (set_job word) o))
job_step over h ts word rest o s turn walk more = go (has_job ts) refl turn walk
  where
    go : (g : Bool) → has_job ts ≡ g → clean (turn_fault shape [] (at h over g idle) word) ≡ (not g && held_clean h)
        → walked shape.rules [] (at h over g idle) word ≡ after_step shape.rules word (at h over g idle) h value
        → Agrees (at h over g idle) (word ∷ rest) (after ts (and_then (set_job word) o))
    go true e t w = fails (at h over true idle) word rest _ t (after_twice ts (set_job word) o e)
    go false e t w =
        let given : has_job (ts ++ set_job word ∷ []) ≡ true = has_name-push (codes "JOB") ts (set_job word ∷ []) ∙ or_true (has_job ts) false in
        let then_rest = more (pended ts (codes "JOB") (word ∷ [])) (ts ++ set_job word ∷ []) (settles_job word ts e s.once s.fine) in
        let as_given = subst (λ g. Agrees (at (pended ts (codes "JOB") (word ∷ [])) over g idle) rest (after (ts ++ set_job word ∷ []) o)) given then_rest in
        let as_set = subst (Agrees (at (pended ts (codes "JOB") (word ∷ [])) over true idle) rest) (after-then ts (set_job word) o) as_given in
        passes (at h over false idle) (at (pended ts (codes "JOB") (word ∷ [])) over true idle) word rest _ (t ∙ s.none) (w ∙ operand_walk h ts word over idle s.to) as_set

-- ---- words in a walk

first_refused : (a b : Kinds) → clean a ≡ false → clean (or_else a b) ≡ false
first_refused [] b e = absurd (true≢false e)
first_refused (k ∷ ks) b e = refl

refused_word : (h : Held) (given : Bool) (waiting : Waiting) (word : Text) → clean (word_fault shape [] false waiting word h) ≡ false
    → clean (turn_fault shape [] (at h false given waiting) word) ≡ false
refused_word h given waiting word e =
    first_refused (word_fault shape [] false waiting word h) _ e

over_turn : (h : Held) (given : Bool) (waiting : Waiting) (word : Text) → clean (turn_fault shape [] (at h true given waiting) word) ≡ (not given && held_clean h)
over_turn h given waiting word = operand_turn given h

over_walk : (h : Held) (given : Bool) (waiting : Waiting) (word : Text) → walked shape.rules [] (at h true given waiting) word ≡ after_step shape.rules word (at h true given waiting) h value
unfolding walked
over_walk h given waiting word = refl

plain_turn : (h : Held) (given : Bool) (word : Text) → Plain word → clean (turn_fault shape [] (at h false given idle) word) ≡ (not given && held_clean h)
plain_turn h given word p = rw (p.end, p.long, p.short) (operand_turn given h)

plain_walk : (h : Held) (given : Bool) (word : Text) → Plain word → walked shape.rules [] (at h false given idle) word ≡ after_step shape.rules word (at h false given idle) h value
unfolding walked
plain_walk h given word p = rw (p.end, p.long, p.short) refl

end_turn_idle : (h : Held) (given : Bool) → clean (turn_fault shape [] (at h false given idle) (45 ∷ 45 ∷ [])) ≡ true
end_turn_idle h given = refl

end_turn_option : (h : Held) (given : Bool) (name : Text) → clean (turn_fault shape [] (at h false given (option name)) (45 ∷ 45 ∷ [])) ≡ true
end_turn_option h given name = refl

end_walk_idle : (h : Held) (given : Bool) → walked shape.rules [] (at h false given idle) (45 ∷ 45 ∷ []) ≡ at h true given idle
unfolding walked
end_walk_idle h given = refl

end_walk_option : (h : Held) (given : Bool) (name : Text) → walked shape.rules [] (at h false given (option name)) (45 ∷ 45 ∷ []) ≡ at h true given (option name)
unfolding walked
end_walk_option h given name = refl

dashed_turn_idle : (h : Held) (given : Bool) (x : ℕ) (xs : Text) → Dashed x xs → IsUtf8 (x ∷ xs) → h.skip ≡ 0 → clean (turn_fault shape [] (at h false given idle) (45 ∷ x ∷ xs)) ≡ false
dashed_turn_idle h given x xs d u skip = refused_word h given idle (45 ∷ x ∷ xs) (rw (d.end, d.long, d.short) (dashed_fault x xs shape.args_override_self h u skip))

dashed_turn_option : (h : Held) (given : Bool) (name : Text) (x : ℕ) (xs : Text) → Dashed x xs → IsUtf8 (x ∷ xs) → h.skip ≡ 0
    → clean (turn_fault shape [] (at h false given (option name)) (45 ∷ x ∷ xs)) ≡ false
dashed_turn_option h given name x xs d u skip = refused_word h given (option name) (45 ∷ x ∷ xs) (rw (d.end, d.long, d.short) (dashed_fault x xs shape.args_override_self h u skip))

-- ---- values that clash

clash_long : (o : Option Rule) (v : Option Text) (h : Held) → held_clean h ≡ false → clean (long_fault shape.rules shape.args_override_self o v h) ≡ false
clash_long None v h e = refl
clash_long (Some a) v h e = go (takes_values a) v
  where
    used_up : (values : List Text) → clean (react_fault shape.rules shape.args_override_self a values h) ≡ false
    used_up values = clean-or (settle_fault shape.rules shape.args_override_self h) (use_fault shape.args_override_self a values (settled shape.rules h).rows)
        ∙ ap (λ b. b && clean (use_fault shape.args_override_self a values (settled shape.rules h).rows)) e

    go : (b : Bool) (v : Option Text) → clean (if b then option_fault shape.rules shape.args_override_self a v h
        else (if is_some v then TooManyValues ∷ [] else react_fault shape.rules shape.args_override_self a [] h)) ≡ false
    go true (Some w) = used_up (w ∷ [])
    go true None = e
    go false (Some w) = refl
    go false None = used_up []

clash_over : (words : List Text) (h : Held) (given : Bool) (waiting : Waiting) → held_clean h ≡ false → total (at h true given waiting) words ≡ false
clash_over [] h given waiting e = total-nil (at h true given waiting) ∙ e
clash_over (word ∷ rest) h given waiting e =
    total-cons (at h true given waiting) word rest
    ∙ ap (λ b. b && total (walked shape.rules [] (at h true given waiting) word) rest) (over_turn h given waiting word ∙ ap (λ b. not given && b) e ∙ and_false (not given))

-- the characters of each word
abbrev pub AllUtf8 : List Text → Type 0
AllUtf8 [] = Unit {0}
AllUtf8 (word ∷ rest) = IsUtf8 word × AllUtf8 rest

clash_idle : (word : Text) (rest : List Text) (h : Held) (given : Bool) → IsUtf8 word → h.skip ≡ 0 → held_clean h ≡ false → total (at h false given idle) (word ∷ rest) ≡ false
clash_idle word rest h given u skip e = by_look (λ w. IsUtf8 w → total (at h false given idle) (w ∷ rest) ≡ false)
    (λ w p v. stop w (plain_turn h given w p ∙ ap (λ b. not given && b) e ∙ and_false (not given)))
    (λ x xs d v. stop (45 ∷ x ∷ xs) (dashed_turn_idle h given x xs d (utf8_behind x xs v) skip))
    (λ v. total-cons (at h false given idle) (45 ∷ 45 ∷ []) rest
    ∙ ap (λ y. total y rest) (end_walk_idle h given) ∙ clash_over rest h given idle e)
    (λ x xs v. stop (45 ∷ 45 ∷ x ∷ xs) (refused_word h given idle (45 ∷ 45 ∷ x ∷ xs) (clash_long (arg_by_long shape.rules (name_and_value (x ∷ xs)).0) (name_and_value (x ∷ xs)).1 h e)))
    word u
  where
    stop : (w : Text) → clean (turn_fault shape [] (at h false given idle) w) ≡ false → total (at h false given idle) (w ∷ rest) ≡ false
    stop w t = total-cons (at h false given idle) w rest ∙ ap (λ b. b && total (walked shape.rules [] (at h false given idle) w) rest) t

clash : (words : List Text) (h : Held) (given : Bool) → AllUtf8 words → h.skip ≡ 0 → held_clean h ≡ false → total (at h false given idle) words ≡ false
clash [] h given u skip e = total-nil (at h false given idle) ∙ e
clash (word ∷ rest) h given u skip e = clash_idle word rest h given u.0 skip e

-- ---- words of options

-- what an option's word comes to, by the argument of its name
abbrev long_met_as : Option Rule → Text → Option Text → Held → Held × Step
long_met_as o word v h = after_flag shape.rules idle word (long_met shape.rules o v h).0 (long_met shape.rules o v h).1

abbrev long_turn : Option Rule → Text → Option Text → Held → Bool → Bool
long_turn o word v h given = clean (or_else (long_fault shape.rules shape.args_override_self o v h) (step_fault shape (place given) (long_met_as o word v h).0 (long_met_as o word v h).1))

abbrev long_walk : Option Rule → Text → Option Text → Held → Bool → Walk
long_walk o word v h given = after_step shape.rules word (at h false given idle) (long_met_as o word v h).0 (long_met_as o word v h).1

-- the word is `--name` or `--name=value`
record Names (word name : Text) (v : Option Text) : Type 0 where
  pub turn : (h : Held) (given : Bool) → clean (turn_fault shape [] (at h false given idle) word) ≡ long_turn (arg_by_long shape.rules name) word v h given
  pub walk : (h : Held) (given : Bool) → walked shape.rules [] (at h false given idle) word ≡ long_walk (arg_by_long shape.rules name) word v h given

names_long : (x : ℕ) (xs : Text) → Names (45 ∷ 45 ∷ x ∷ xs) (name_and_value (x ∷ xs)).0 (name_and_value (x ∷ xs)).1
unfolding walked
names_long x xs = record { turn = λ h given. refl; walk = λ h given. refl }

clean-then : (a b : Kinds) → clean (or_else (or_else a b) []) ≡ (clean a && clean b)
clean-then [] [] = refl
clean-then [] (k ∷ ks) = refl
clean-then (k ∷ ks) b = refl

clean-last : (a : Kinds) → clean (or_else a []) ≡ clean a
clean-last [] = refl
clean-last (k ∷ ks) = refl

-- a use of an argument, after what is held
used_turn : (a : Rule) (values : List Text) (h : Held) (ts : List Setting) → Settles h ts
    → clean (or_else (react_fault shape.rules shape.args_override_self a values h) []) ≡ clean (use_fault false a values (rows ts))
used_turn a values h ts s =
    clean-then (settle_fault shape.rules shape.args_override_self h) (use_fault shape.args_override_self a values (settled shape.rules h).rows)
    ∙ ap (λ b. b && clean (use_fault shape.args_override_self a values (settled shape.rules h).rows)) s.none
    ∙ ap₂ (λ b k. clean (use_fault b a values k.rows)) once_only s.to

used_walk : (a : Rule) (values : List Text) (h : Held) (ts us : List Setting) (given : Bool) → Settles h ts → used a values (rows ts) ≡ rows us
    → at (reacted shape.rules a values h) false given idle ≡ at (ended us) false given idle
used_walk a values h ts us given s e =
    ap (λ k. at (record { rows = used a values k.rows; pending = None; skip = k.skip }) false given idle) s.to
    ∙ ap (λ (rs : List Row). at (record { rows = rs; pending = None; skip = 0 }) false given idle) e

-- what is shown of the words after
abbrev Later : List Text → Type 0
Later rest = (k : Held) (us : List Setting) → Settles k us → Agrees (at k false (has_job us) idle) rest (after us (words_set rest None))

abbrev LaterValue : List Text → Type 0
LaterValue rest = (us : List Setting) (name : Text) → is_one_of with_value name ≡ true → are_set_once us ≡ true → are_fine us ≡ true
    → Agrees (at (pended us name []) false (has_job us) (option name)) rest (after us (words_set rest (Some name)))

value_step : (word name v : Text) (rest : List Text) (h : Held) (ts : List Setting) → Names word name (Some v) → is_one_of with_value name ≡ true → Settles h ts → Later rest
    → Agrees (at h false (has_job ts) idle) (word ∷ rest) (after ts (and_then (set name v) (words_set rest None)))
value_step word name v rest h ts n o s later = go (has_name name ts) refl
  where
    turn : clean (turn_fault shape [] (at h false (has_job ts) idle) word) ≡ clean (use_fault false (opt name) (v ∷ []) (rows ts))
    turn = n.turn h (has_job ts) ∙ ap (λ r. long_turn r word (Some v) h (has_job ts)) (option_by_long name o) ∙ used_turn (opt name) (v ∷ []) h ts s

    go : (b : Bool) → has_name name ts ≡ b → Agrees (at h false (has_job ts) idle) (word ∷ rest) (after ts (and_then (set name v) (words_set rest None)))
    go true e = fails (at h false (has_job ts) idle) word rest _ (turn ∙ use_clash name v (rows ts) (has_row-rows name ts ∙ e)) (after_twice ts (set name v) (words_set rest None) e)
    go false e =
        let us : List Setting = ts ++ set name v ∷ [] in
        let walk = n.walk h (has_job ts) ∙ ap (λ r. long_walk r word (Some v) h (has_job ts)) (option_by_long name o)
        ∙ used_walk (opt name) (v ∷ []) h ts us (has_job ts) s (option_used name v ts o e) in
        let then_rest = later (ended us) us (settles_ended us (given_once ts (set name v) s.once e) (fine-push ts (set name v) s.fine (fine_option name v o))) in
        let as_given = subst (λ g. Agrees (at (ended us) false g idle) rest (after us (words_set rest None))) (no_job name v ts o) then_rest in
        let as_set = subst (Agrees (at (ended us) false (has_job ts) idle) rest) (after-then ts (set name v) (words_set rest None)) as_given in
        passes (at h false (has_job ts) idle) (at (ended us) false (has_job ts) idle) word rest _ (turn ∙ use_clean name v (rows ts) (has_row-rows name ts ∙ e)) walk as_set

name_step : (word name : Text) (rest : List Text) (h : Held) (ts : List Setting) → Names word name None → is_one_of with_value name ≡ true → Settles h ts → LaterValue rest
    → Agrees (at h false (has_job ts) idle) (word ∷ rest) (after ts (words_set rest (Some name)))
name_step word name rest h ts n o s later =
    let turn = n.turn h (has_job ts) ∙ ap (λ r. long_turn r word None h (has_job ts)) (option_by_long name o)
    ∙ clean-last (settle_fault shape.rules shape.args_override_self h) ∙ s.none in
    let walk = n.walk h (has_job ts) ∙ ap (λ r. long_walk r word None h (has_job ts)) (option_by_long name o)
    ∙ ap (λ k. at (record { rows = k.rows; pending = Some (name, []); skip = k.skip }) false (has_job ts) (option name)) s.to in
    passes (at h false (has_job ts) idle) (at (pended ts name []) false (has_job ts) (option name)) word rest _ turn walk (later ts name o s.once s.fine)

flag_step : (word : Text) (rest : List Text) (h : Held) (ts : List Setting) → Names word stats None → Settles h ts → Later rest
    → Agrees (at h false (has_job ts) idle) (word ∷ rest) (after ts (and_then (set stats (codes "true")) (words_set rest None)))
flag_step word rest h ts n s later = go (has_name stats ts) refl
  where
    turn : clean (turn_fault shape [] (at h false (has_job ts) idle) word) ≡ clean (use_fault false flag [] (rows ts))
    turn = n.turn h (has_job ts) ∙ ap (λ r. long_turn r word None h (has_job ts)) stats_by_long ∙ used_turn flag [] h ts s

    go : (b : Bool) → has_name stats ts ≡ b → Agrees (at h false (has_job ts) idle) (word ∷ rest) (after ts (and_then (set stats (codes "true")) (words_set rest None)))
    go true e = fails (at h false (has_job ts) idle) word rest _ (turn ∙ flag_clash (rows ts) (has_row-rows stats ts ∙ e)) (after_twice ts (set stats (codes "true")) (words_set rest None) e)
    go false e =
        let us : List Setting = ts ++ set stats (codes "true") ∷ [] in
        let walk = n.walk h (has_job ts) ∙ ap (λ r. long_walk r word None h (has_job ts)) stats_by_long ∙ used_walk flag [] h ts us (has_job ts) s (flag_used ts e) in
        let then_rest = later (ended us) us (settles_ended us (given_once ts (set stats (codes "true")) s.once e) (fine-push ts (set stats (codes "true")) s.fine refl)) in
        let same : has_job us ≡ has_job ts = has_name-push (codes "JOB") ts (set stats (codes "true") ∷ []) ∙ or_false (has_job ts) in
        let as_given = subst (λ g. Agrees (at (ended us) false g idle) rest (after us (words_set rest None))) same then_rest in
        let as_set = subst (Agrees (at (ended us) false (has_job ts) idle) rest) (after-then ts (set stats (codes "true")) (words_set rest None)) as_given in
        passes (at h false (has_job ts) idle) (at (ended us) false (has_job ts) idle) word rest _ (turn ∙ flag_clean (rows ts) (has_row-rows stats ts ∙ e)) walk as_set

long_step : (word name : Text) (v : Option Text) (rest : List Text) (h : Held) (ts : List Setting) → Names word name v → Settles h ts → Later rest → LaterValue rest
    → Agrees (at h false (has_job ts) idle) (word ∷ rest) (after ts (option_sets name v (words_set rest)))
long_step word name v rest h ts n s later later_value = go (is_one_of with_value name) refl v n
  where
    other : (b : Bool) → bytes_eq name stats ≡ b → is_one_of with_value name ≡ false → Names word name None
        → Agrees (at h false (has_job ts) idle) (word ∷ rest) (after ts (if b then and_then (set name (codes "true")) (words_set rest None) else None))
    other true e o n =
        let is : name ≡ stats = (bytes_eq-Decides name stats).0 e in
        subst (λ t. Agrees (at h false (has_job ts) idle) (word ∷ rest) (after ts (and_then (set t (codes "true")) (words_set rest None)))) (sym is)
        (flag_step word rest h ts (subst (λ t. Names word t None) is n) s later)
    other false e o n =
        let not_found = other_by_long name o (same_test stats name ∙ e) in
        fails (at h false (has_job ts) idle) word rest _ (n.turn h (has_job ts) ∙ ap (λ r. long_turn r word None h (has_job ts)) not_found) (after_none ts)

    wrong : (b : Bool) → bytes_eq name stats ≡ b → (val : Text) → is_one_of with_value name ≡ false → Names word name (Some val)
        → Agrees (at h false (has_job ts) idle) (word ∷ rest) (after ts None)
    wrong true e val o n =
        let found : arg_by_long shape.rules name ≡ Some flag = ap (arg_by_long shape.rules) ((bytes_eq-Decides name stats).0 e) ∙ stats_by_long in
        fails (at h false (has_job ts) idle) word rest _ (n.turn h (has_job ts) ∙ ap (λ r. long_turn r word (Some val) h (has_job ts)) found) (after_none ts)
    wrong false e val o n =
        let not_found = other_by_long name o (same_test stats name ∙ e) in
        fails (at h false (has_job ts) idle) word rest _ (n.turn h (has_job ts) ∙ ap (λ r. long_turn r word (Some val) h (has_job ts)) not_found) (after_none ts)

    go : (b : Bool) → is_one_of with_value name ≡ b → (v : Option Text) → Names word name v
        → Agrees (at h false (has_job ts) idle) (word ∷ rest) (after ts (option_sets name v (words_set rest)))
    go true o (Some val) n = rw o (value_step word name val rest h ts n o s later)
    go true o None n = rw o (name_step word name rest h ts n o s later_value)
    go false o (Some val) n = rw o (wrong (bytes_eq name stats) refl val o n)
    go false o None n = rw o (other (bytes_eq name stats) refl o n)

-- ---- all words

abbrev Reads : List Text → Type 0
Reads words = ((h : Held) (ts : List Setting) → Settles h ts → Agrees (at h true (has_job ts) idle) words (after ts (Some (map set_job words)))) × Later words × LaterValue words

nothing_left : (h : Held) (ts : List Setting) (over : Bool) → Settles h ts → Agrees (at h over (has_job ts) idle) [] (after ts (Some []))
nothing_left h ts over s = rw (after_end ts s.once) (total-nil (at h over (has_job ts) idle) ∙ s.none, ap (λ k. k.rows) s.to, s.fine)

value_left : LaterValue []
value_left us name o single fine = rw (after_none us) (total-nil (at (pended us name []) false (has_job us) (option name)) ∙ pended_none name us o)

no_skip : (h : Held) (ts : List Setting) → Settles h ts → h.skip ≡ 0
no_skip h ts s = ap (λ k. k.skip) s.to

same_name : (name : Text) → bytes_eq name name ≡ true
same_name name = (bytes_eq-Decides name name).1 refl

long_dashed : (x : ℕ) (xs : Text) → is_dashed (45 ∷ 45 ∷ x ∷ xs) ≡ true
long_dashed x xs = grind (arith, nat_tests)

any_step : (word : Text) (rest : List Text) → IsUtf8 word → Later rest → LaterValue rest
    → ((h : Held) (ts : List Setting) → Settles h ts → Agrees (at h true (has_job ts) idle) rest (after ts (Some (map set_job rest))))
    → (h : Held) (ts : List Setting) → Settles h ts → Agrees (at h false (has_job ts) idle) (word ∷ rest) (after ts (words_set (word ∷ rest) None))
any_step word rest u later later_value over h ts s = by_look (λ w. IsUtf8 w → Agrees (at h false (has_job ts) idle) (w ∷ rest) (after ts (words_set (w ∷ rest) None)))
    (λ w p v. rw (p.end, p.starts, p.dashed) (job_step false h ts w rest (words_set rest None) s (plain_turn h (has_job ts) w p) (plain_walk h (has_job ts) w p) later))
    (λ x xs d v. rw (d.end, d.starts, d.dashed) (fails (at h false (has_job ts) idle) (45 ∷ x ∷ xs) rest (after ts None)
    (dashed_turn_idle h (has_job ts) x xs d (utf8_behind x xs v) (no_skip h ts s)) (after_none ts)))
    (λ v. passes (at h false (has_job ts) idle) (at h true (has_job ts) idle) (45 ∷ 45 ∷ []) rest (after ts (Some (map set_job rest)))
    (end_turn_idle h (has_job ts)) (end_walk_idle h (has_job ts)) (over h ts s))
    (λ x xs v. long_step (45 ∷ 45 ∷ x ∷ xs) (name_and_value (x ∷ xs)).0 (name_and_value (x ∷ xs)).1 rest h ts (names_long x xs) s later later_value)
    word u

value_walk : (us : List Setting) (name : Text) (given : Bool) (word : Text) → is_one_of with_value name ≡ true → Plain word
    → walked shape.rules [] (at (pended us name []) false given (option name)) word ≡ at (pended us name (word ∷ [])) false given idle
unfolding walked
value_walk us name given word o p = rw (p.end, p.long, p.short) (
    ap (λ r. at (option_word r name word (pended us name [])).0 false given (option_word r name word (pended us name [])).1) (option_by_id name o)
    ∙ ap (λ b. at (pended us name (word ∷ [])) false given (if nat_lt (if b then 1 else 0) 1 then option name else idle)) (same_name name))

value_turn : (us : List Setting) (name : Text) (given : Bool) (word : Text) → Plain word → clean (turn_fault shape [] (at (pended us name []) false given (option name)) word) ≡ true
value_turn us name given word p = rw (p.end, p.long, p.short) refl

value_word : (word : Text) (rest : List Text) → IsUtf8 word → AllUtf8 rest → Later rest → LaterValue (word ∷ rest)
value_word word rest u us_utf8 later us name o single fine = by_look (λ w. IsUtf8 w → Agrees (state (option name)) (w ∷ rest) (after us (words_set (w ∷ rest) (Some name))))
    (λ w p v. rw p.dashed (plain w p (has_name name us) refl))
    (λ x xs d v. rw d.dashed (fails (state (option name)) (45 ∷ x ∷ xs) rest (after us None) (dashed_turn_option (pended us name []) (has_job us) name x xs d (utf8_behind x xs v) refl) (after_none us)))
    (λ v. rw (after_none us) (passes (state (option name)) (at (pended us name []) true (has_job us) (option name)) (45 ∷ 45 ∷ []) rest None
    (end_turn_option (pended us name []) (has_job us) name) (end_walk_option (pended us name []) (has_job us) name)
    (clash_over rest (pended us name []) (has_job us) (option name) (pended_none name us o))))
    (λ x xs v. rw (long_dashed x xs) (fails (state (option name)) (45 ∷ 45 ∷ x ∷ xs) rest (after us None)
    (refused_word (pended us name []) (has_job us) (option name) (45 ∷ 45 ∷ x ∷ xs)
    (clash_long (arg_by_long shape.rules (name_and_value (x ∷ xs)).0) (name_and_value (x ∷ xs)).1 (pended us name []) (pended_none name us o))) (after_none us)))
    word u
  where
    state : Waiting → Walk
    state waiting = at (pended us name []) false (has_job us) waiting

    plain : (w : Text) → Plain w → (b : Bool) → has_name name us ≡ b → Agrees (at (pended us name []) false (has_job us) (option name)) (w ∷ rest) (after us (and_then (set name w) (words_set rest None)))
    plain w p true e = rw (after_twice us (set name w) (words_set rest None) e)
        (passes (at (pended us name []) false (has_job us) (option name)) (at (pended us name (w ∷ [])) false (has_job us) idle) w rest None (value_turn us name (has_job us) w p) (value_walk us name (has_job us) w o p)
        (clash rest (pended us name (w ∷ [])) (has_job us) us_utf8 refl (pended_twice name w us o e)))
    plain w p false e =
        let ts : List Setting = us ++ set name w ∷ [] in
        let then_rest = later (pended us name (w ∷ [])) ts (settles_option name w us o e single fine) in
        let as_given = subst (λ g. Agrees (at (pended us name (w ∷ [])) false g idle) rest (after ts (words_set rest None))) (no_job name w us o) then_rest in
        let as_set = subst (Agrees (at (pended us name (w ∷ [])) false (has_job us) idle) rest) (after-then us (set name w) (words_set rest None)) as_given in
        passes (at (pended us name []) false (has_job us) (option name)) (at (pended us name (w ∷ [])) false (has_job us) idle) w rest _ (value_turn us name (has_job us) w p) (value_walk us name (has_job us) w o p) as_set

reads : (words : List Text) → AllUtf8 words → Reads words
reads [] u = (λ h ts s. nothing_left h ts true s, λ h ts s. nothing_left h ts false s, value_left)
reads (word ∷ rest) u =
    let behind = reads rest u.1 in (
      λ h ts s. job_step true h ts word rest (Some (map set_job rest)) s (over_turn h (has_job ts) idle word) (over_walk h (has_job ts) idle word) behind.0,
      any_step word rest u.0 behind.1 behind.2 behind.0,
      value_word word rest u.0 u.1 behind.1,
    )

after-nil : (o : Option (List Setting)) → after [] o ≡ once o
after-nil None = refl
after-nil (Some ts) = refl

-- the walk takes the words just where they set names once
pub agrees : (words : List Text) → AllUtf8 words → Agrees (walk_from nothing_held) words (once (words_set words None))
agrees words u = subst (Agrees (walk_from nothing_held) words) (after-nil (words_set words None)) ((reads words u).1 nothing_held [] (record { none = refl; to = refl; once = refl; fine = refl }))

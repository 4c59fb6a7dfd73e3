-- Lines that are written one after the other.
use Rattle.std.proofs.Common.{◌≡◌, ℕ, zero, suc, ◌+◌, ◌≤◌, List, [], ◌∷◌, ◌++◌, Option, Some, take, refl, sym, ap, ◌∙◌, append_assoc, append-nil, slice_get, slice_index_or, map, length, ◌<◌, arith, subst}
use Rattle.std.specs.List.{concat}
use Rattle.std.specs.Io.KnownBytes.{Appends}
use Rattle.outside_model.specs.Told.{AppendsPrefix}
use Rattle.std.proofs.lemmas.List.Folds.{concat-append}
use Rattle.slif_base.proofs.Bytes.{appends_twice}
use Rattle.run_model.specs.Outside.{Stream}
use Rattle.tellings.specs.Stops.{LinesStop}
use Rattle.tellings.specs.declared.stop.Stop.{Stop}
use Rattle.tellings.proofs.Stopping.{stops_as}

-- the text of one line more
pub one_line_more : (lines : List (List ℕ)) (k : ℕ) (line : List ℕ) → slice_get lines k ≡ Some line → concat (take (suc k) lines) ≡ concat (take k lines) ++ line
one_line_more [] k line e = absurd (cc e)
one_line_more (first ∷ others) zero line e = let same : first ≡ line = cc e in append-nil first ∙ same
one_line_more (first ∷ others) (suc k) line e = ap (λ t. first ++ t) (one_line_more others k line e) ∙ sym (append_assoc first (concat (take k others)) line)

-- what is left of the text after a line's prefix
text_behind : (lines : List (List ℕ)) (k : ℕ) (line prefix rest : List ℕ) → slice_get lines k ≡ Some line → line ≡ prefix ++ rest
    → (tail : List ℕ) × (concat lines ≡ (concat (take k lines) ++ prefix) ++ tail)
text_behind [] k line prefix rest e split = absurd (cc e)
text_behind (first ∷ others) zero line prefix rest e split =
    let same : first ≡ line = cc e in
    (rest ++ concat others, ap (λ l. l ++ concat others) (same ∙ split) ∙ append_assoc prefix rest (concat others))
text_behind (first ∷ others) (suc k) line prefix rest e split =
    let behind = text_behind others k line prefix rest e split in
    (behind.0, ap (λ t. first ++ t) behind.1 ∙ sym (append_assoc first (concat (take k others) ++ prefix) behind.0) ∙ ap (λ t. t ++ behind.0) (sym (append_assoc first (concat (take k others)) prefix)))

-- a prefix of a line after whole lines is a prefix of the text
pub prefix_of_text : (lines : List (List ℕ)) (k : ℕ) (line : List ℕ) (before middle after : Option (List ℕ)) → slice_get lines k ≡ Some line
    → Appends before middle (concat (take k lines)) → AppendsPrefix middle after line → AppendsPrefix before after (concat lines)
prefix_of_text lines k line before middle after e whole part =
    let behind = text_behind lines k line part.bytes part.rest e part.split in
    record {
      bytes = concat (take k lines) ++ part.bytes;
      rest = behind.0;
      split = behind.1;
      appends = appends_twice before middle after (concat (take k lines)) part.bytes whole part.appends;
    }

-- whole lines are a prefix of the text
pub lines_in_prefix : (lines : List (List ℕ)) (k : ℕ) (before after : Option (List ℕ)) → Appends before after (concat (take k lines)) → AppendsPrefix before after (concat lines)
lines_in_prefix lines k before after whole = let behind = behind_lines lines k in record { bytes = concat (take k lines); rest = behind.0; split = behind.1; appends = whole }
  where
    behind_lines : (lines : List (List ℕ)) (k : ℕ) → (tail : List ℕ) × (concat lines ≡ concat (take k lines) ++ tail)
    behind_lines [] zero = ([], refl)
    behind_lines [] (suc k) = ([], refl)
    behind_lines (first ∷ others) zero = (concat (first ∷ others), refl)
    behind_lines (first ∷ others) (suc k) =
        let behind = behind_lines others k in
        (behind.0, ap (λ t. first ++ t) behind.1 ∙ sym (append_assoc first (concat (take k others)) behind.0))

-- a line after those before it
pub one_more_written : (lines : List (List ℕ)) (k : ℕ) (line : List ℕ) (before middle after : Option (List ℕ)) → slice_get lines k ≡ Some line
    → Appends before middle (concat (take k lines)) → Appends middle after line → Appends before after (concat (take (k + 1) lines))
one_more_written lines k line before middle after e whole more =
    let next : k + 1 ≡ suc k = omega arith in
    subst (Appends before after) (sym (ap (λ (n : ℕ). concat (take n lines)) next ∙ one_line_more lines k line e)) (appends_twice before middle after (concat (take k lines)) line whole more)

-- a line after whole lines is not all written
pub line_stops : (lines : List (List ℕ)) (k : ℕ) (line : List ℕ) (before middle after : Stream) (stop : Stop) → slice_get lines k ≡ Some line
    → Appends before.bytes middle.bytes (concat (take k lines)) → before.faults ≤ middle.faults → LinesStop (line ∷ []) middle after stop → LinesStop lines before after stop
line_stops lines k line before middle after stop e whole later stops =
    stops_as (λ r x. x) (λ n x. x) (λ x. x) (λ x. (let rose = x.0 in omega (arith, later, rose), behind x.1)) behind stop stops
  where
    behind : AppendsPrefix middle.bytes after.bytes (concat (line ∷ [])) → AppendsPrefix before.bytes after.bytes (concat lines)
    behind part = prefix_of_text lines k line before.bytes middle.bytes after.bytes e whole (subst (AppendsPrefix middle.bytes after.bytes) (append-nil line) part)

-- an item of a list, as a line
pub mapped_item : {X : Type 0} (f : X → List ℕ) (xs : List X) (k : ℕ) (x : X) → k < length xs → x ≡ slice_index_or xs k x → slice_get (map f xs) k ≡ Some (f x)
mapped_item f [] k x lt e = absurd (omega arith)
mapped_item f (y ∷ ys) zero x lt e = ap (λ z. Some (f z)) (sym e)
mapped_item f (y ∷ ys) (suc k) x lt e = mapped_item f ys k x (omega arith) e

-- LINES BEHIND OTHERS

module _ (xs ys : List (List ℕ)) where
  pub appends_both : (before middle after : Option (List ℕ)) → Appends before middle (concat xs) → Appends middle after (concat ys) → Appends before after (concat (xs ++ ys))
  appends_both before middle after first second = subst (Appends before after) (sym (concat-append xs ys)) (appends_twice before middle after (concat xs) (concat ys) first second)

  pub prefix_of_both : (before after : Option (List ℕ)) → AppendsPrefix before after (concat xs) → AppendsPrefix before after (concat (xs ++ ys))
  prefix_of_both before after part = record {
    bytes = part.bytes;
    rest = part.rest ++ concat ys;
    split = concat-append xs ys ∙ ap (λ t. t ++ concat ys) part.split ∙ append_assoc part.bytes part.rest (concat ys);
    appends = part.appends;
  }

  prefix_behind : (before middle after : Option (List ℕ)) → Appends before middle (concat xs) → AppendsPrefix middle after (concat ys) → AppendsPrefix before after (concat (xs ++ ys))
  prefix_behind before middle after first part = record {
    bytes = concat xs ++ part.bytes;
    rest = part.rest;
    split = concat-append xs ys ∙ ap (λ t. concat xs ++ t) part.split ∙ sym (append_assoc (concat xs) part.bytes part.rest);
    appends = appends_twice before middle after (concat xs) part.bytes first part.appends;
  }

  -- the lines after those that were written are not all written
  pub stops_behind : (before middle after : Stream) (stop : Stop) → Appends before.bytes middle.bytes (concat xs) → before.faults ≤ middle.faults → LinesStop ys middle after stop → LinesStop (xs ++ ys) before after stop
  stops_behind before middle after stop first later stops =
      stops_as (λ r x. x) (λ n x. x) (λ x. x) (λ x. (let rose = x.0 in omega (arith, later, rose), prefix_behind before.bytes middle.bytes after.bytes first x.1)) (prefix_behind before.bytes middle.bytes after.bytes first) stop stops

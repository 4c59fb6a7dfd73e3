-- What a script is told of a place.
use Rattle.std.proofs.Common.{◌≡◌, ◌∙◌, ℕ, ◌<◌, ◌≤◌, ◌++◌, inl, inr, Bool, true, false, nat_le, leb-true, List, [], ◌∷◌, Option, Ok, Err, length, map, refl, sym, ap, subst, arith}
use Rattle.std.proofs.lemmas.Bool.{leb-false}
use Rattle.std.specs.Prelude.{All, Contains, ◌↔◌, codes, decimal}
use Rattle.std.specs.List.{concat}
use Rattle.std.specs.Io.KnownBytes.{Appends}
use Rattle.std.proofs.lemmas.List.Elements.{All-weaker, All-contains_itself}
use Rattle.outside_model.specs.Told.{AppendsPrefix}
use Rattle.grammar_model.specs.Grammar.{Grammar}
use Rattle.recognizer_model.specs.declared.ReportLine.{ReportLine}
use Rattle.report_model.specs.Report.{IsReport}
use Rattle.report_model.specs.FlatReport.{IsFlatReport}
use Rattle.report_model.specs.Lines.{report_line}
use Rattle.report_laws.proofs.Flat.{report_of_flat}
use Rattle.earley_sets.specs.Recognizer.{Recognizer, IsRecognizer, earleme_of}
use Rattle.script_model.specs.Replies.{Reply, as_line, says, tells, ReportReplies, ReportedReplies}
use Rattle.marpa_script.specs.Machines.{reading, ReadsBy}
use Rattle.marpa_script.specs.Written.{Replied, BreaksOff, Within}
use Rattle.marpa_script.proofs.Writing.{line_said, line_broken}

module _ (g : Grammar) (r : Recognizer) (at : ℕ) (reads : ReadsBy g r) (is : IsRecognizer r) where
  pub report_is : (items : List ReportLine) → IsFlatReport g r.flat r.edges r.start at items → IsReport g r.edges 0 at items
  report_is items told =
      subst (λ n. IsReport g r.edges n at items) reads.start
      (report_of_flat g r.flat r.edges r.start at items is.flat reads.flat reads.checked (λ s p q held. is.forward (record { symbol = s; from = p; to = q }) held) told)

  pub rules_known : (items : List ReportLine) → IsReport g r.edges 0 at items → All (λ l. l.rule < length g.rules) items
  rules_known items report = All-weaker (Contains items) (λ l. l.rule < length g.rules) (λ l among. ((report.exact l).0 among).first.in_range) items (All-contains_itself items)

  replies : (items : List ReportLine) → IsReport g r.edges 0 at items → at ≤ earleme_of r → ReportReplies (reading g r) at (tells (reading g r) (map (report_line g at) items) (codes "reported " ++ decimal (length items)))
  replies items report within = inr ((λ past. let lt = past in omega (arith, within, lt)), record { lines = items; are = report; is = refl })

  module _ (old new : Option (List ℕ)) (items : List ReportLine) (report : IsReport g r.edges 0 at items) (within : at ≤ earleme_of r) where
    pub report_told : Appends old new (concat (map (report_line g at) items ++ as_line (codes "reported " ++ decimal (length items)) ∷ [])) → Replied (ReportReplies (reading g r) at) (reading g r) old new
    report_told appends = record {
      reply = tells (reading g r) (map (report_line g at) items) (codes "reported " ++ decimal (length items));
      is = replies items report within;
      after_is = refl;
      appends = appends;
    }

    pub report_broken : AppendsPrefix old new (concat (map (report_line g at) items ++ as_line (codes "reported " ++ decimal (length items)) ∷ [])) → BreaksOff (ReportReplies (reading g r) at) old new
    report_broken part = Within (tells (reading g r) (map (report_line g at) items) (codes "reported " ++ decimal (length items))) (replies items report within) part

  module _ (old new : Option (List ℕ)) (past : earleme_of r < at) where
    no_set : ReportReplies (reading g r) at (says (reading g r) (codes "no set " ++ decimal at))
    no_set = inl (past, refl)

    pub no_set_told : Appends old new (as_line (codes "no set " ++ decimal at)) → Replied (ReportReplies (reading g r) at) (reading g r) old new
    no_set_told = line_said (ReportReplies (reading g r) at) (reading g r) (codes "no set " ++ decimal at) old new no_set

    pub no_set_broken : AppendsPrefix old new (as_line (codes "no set " ++ decimal at)) → BreaksOff (ReportReplies (reading g r) at) old new
    no_set_broken = line_broken (ReportReplies (reading g r) at) (reading g r) (codes "no set " ++ decimal at) old new no_set

-- a place that is not refused is within
pub within_from : {A B : Type 0} (at last : ℕ) {x : A} {e : B} → (Ok x ≡ Err e) ↔ (last < at) → at ≤ last
within_from {A} {B} at last {x} {e} iff = by (nat_le at last) refl
  where
    by : (t : Bool) → nat_le at last ≡ t → at ≤ last
    by true same = leb-true at last same
    by false same = let bad : Ok x ≡ Err e = iff.1 (leb-false at last same) in absurd (cc bad)

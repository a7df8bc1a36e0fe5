-- Steps of a proof with lemmas in which no lemma stands: as a branch, and as the trunk.
use Rattle.std.proofs.Common.{◌≡◌, List, [], ◌∷◌, ◌++◌, refl, ap, ◌∙◌}
use Rattle.std.specs.List.{AllByRecursion}
use Rattle.std.proofs.lemmas.List.{append-nil}
use Rattle.line_facts.specs.Masks.{Masks}
use Rattle.picture.specs.Rows.{Rows}
use Rattle.picture.proofs.ColourLaws.{every_append}
use Rattle.cert_text.specs.declared.cert_line.CertLine.{CertLine}
use Rattle.cert_text.specs.Cert.{IsOfLemmas}
use Rattle.cert_check.specs.Lemmas.{no_lemmas}
use Rattle.cert_check.specs.Steps.{Leads}
use Rattle.cert_check.specs.LemmaProof.{Branch, Trunk, leads, none, more, ends, goes, branch_lines, trunk_lines, BranchProves, TrunkProves}
use Rattle.claims.specs.Told.{IsPlain}

-- lines that prove a picture from facts, with no lemma, and can be written
pub record AreSteps (picture : Rows) (facts : Masks) (lines : List CertLine) : Type 0 where
  pub branch : Branch
  pub branch_is : branch_lines branch ≡ lines
  pub branch_proves : BranchProves picture no_lemmas facts branch
  pub trunk : Trunk
  pub trunk_is : trunk_lines trunk ≡ lines
  pub trunk_proves : TrunkProves picture no_lemmas facts trunk
  pub writable : AllByRecursion IsOfLemmas lines
  pub plain : AllByRecursion IsPlain lines

module _ (picture : Rows) (facts : Masks) (line : CertLine) (writable : IsOfLemmas line) (plain : IsPlain line) where
  pub ended : Leads picture no_lemmas facts line [] → AreSteps picture facts (line ∷ [])
  ended l = record {
    branch = leads line none;
    branch_is = refl;
    branch_proves = ([], (l, tt));
    trunk = ends line;
    trunk_is = refl;
    trunk_proves = l;
    writable = (writable, tt);
    plain = (plain, tt);
  }

  pub onward : (gained : Masks) (rest : List CertLine) → Leads picture no_lemmas facts line (gained ∷ []) → AreSteps picture gained rest → AreSteps picture facts (line ∷ rest)
  onward gained rest l s = record {
    branch = leads line (more s.branch none);
    branch_is = ap (λ (lines : List CertLine). line ∷ lines) (append-nil (branch_lines s.branch) ∙ s.branch_is);
    branch_proves = (gained ∷ [], (l, (s.branch_proves, tt)));
    trunk = goes line none s.trunk;
    trunk_is = ap (λ (lines : List CertLine). line ∷ lines) s.trunk_is;
    trunk_proves = ([], (gained, (l, tt, s.trunk_proves)));
    writable = (writable, s.writable);
    plain = (plain, s.plain);
  }

  pub parted : (off to : Masks) (first rest : List CertLine) → Leads picture no_lemmas facts line (off ∷ to ∷ []) → AreSteps picture off first → AreSteps picture to rest
      → AreSteps picture facts (line ∷ (first ++ rest))
  parted off to first rest l s t = record {
    branch = leads line (more s.branch (more t.branch none));
    branch_is = ap (λ (lines : List CertLine). line ∷ lines)
        (ap (λ (lines : List CertLine). branch_lines s.branch ++ lines) (append-nil (branch_lines t.branch) ∙ t.branch_is) ∙ ap (λ (lines : List CertLine). lines ++ rest) s.branch_is);
    branch_proves = (off ∷ to ∷ [], (l, (s.branch_proves, (t.branch_proves, tt))));
    trunk = goes line (more s.branch none) t.trunk;
    trunk_is = ap (λ (lines : List CertLine). line ∷ lines)
        (ap (λ (lines : List CertLine). lines ++ trunk_lines t.trunk) (append-nil (branch_lines s.branch) ∙ s.branch_is) ∙ ap (λ (lines : List CertLine). first ++ lines) t.trunk_is);
    trunk_proves = (off ∷ [], (to, (l, (s.branch_proves, tt), t.trunk_proves)));
    writable = (writable, every_append IsOfLemmas first rest s.writable t.writable);
    plain = (plain, every_append IsPlain first rest s.plain t.plain);
  }

-- What a session writes for an input of one line.
use Rattle.std.proofs.Common.{◌≡◌, ℕ, Bool, false, List, [], ◌∷◌, ◌++◌, Option, Some, None, Result, Ok, inl, inr, refl, sym, ap, subst, ◌∙◌, codes}
use Rattle.std.specs.Prelude.{◌⊎◌}
use Rattle.std.specs.Io.KnownBytes.{Consumes, IsAtEnd}
use Rattle.std.proofs.lemmas.List.{append-nil}
use Rattle.ppm_text.specs.Ppm.{ppm_of}
use Rattle.edits.specs.Design.{Design}
use Rattle.edits.specs.History.{history}
use Rattle.live_audit.specs.Bench.{Seen}
use Rattle.program_options.specs.declared.fault.ProgramFault.{ProgramFault}
use Rattle.program_options.specs.declared.options.Options.{Options}
use Rattle.answers.specs.Open.{OpensAs, OpensFile}
use Rattle.answers.specs.Run.{after_edit}
use Rattle.answers.specs.Start.{IsStarted}
use Rattle.command_text.specs.declared.command.Command.{Command}
use Rattle.command_text.specs.declared.command.Command.TheVariants as command
use Rattle.command_text.specs.declared.request.Request.{Request}
use Rattle.command_text.specs.declared.request.Request.TheVariants as request
use Rattle.command_text.specs.Lines.{ended_lines_of, lines_of, request_of}
use Rattle.command_text.specs.Words.{Texts, is_blank, words_of}
use Rattle.session.specs.Refusal.{memory_line}
use Rattle.session.specs.Session.{IsShort, Replies, Runs, Says, SaysTo, SaysToAll}
use Rattle.claims.specs.Laws.{PairsAreAccepted}
use Rattle.claims.specs.Printed.{HasWritten, OneFileIsOneDocument, PrintedAreAccepted, StartedAreAccepted}

-- all of an input that was read to its end
all_read : (input read : List ℕ) (left : Option (List ℕ)) → Consumes (Some input) left read → IsAtEnd left → read ≡ input
all_read input read None consumes ended = absurd consumes
all_read input read (Some rest) consumes ended = sym (consumes ∙ (ap (λ (xs : List ℕ). read ++ xs) ended ∙ append-nil read))

-- a command's text, where memory did not run out
said : (c : Command) (s between : Seen) (text : List ℕ) → (IsShort c s text between → text ≡ memory_line) → (text ≡ memory_line → ⊥) → SaysTo s c text between ⊎ IsShort c s text between
    → SaysTo s c text between
said c s between text short made (inl says) = says
said c s between text short made (inr lacks) = absurd (made (short lacks))

-- the text of the one line that is a command
pub record IsOneText (c : Command) (s last : Seen) (bytes : List ℕ) : Type 0 where
  pub between : Seen
  pub says : SaysTo s c bytes between

one_text : (c : Command) (line : List ℕ) (s last : Seen) (text bytes : List ℕ) → request_of line ≡ request.Command c → ((old new : Seen) (t : List ℕ) → IsShort c old t new → t ≡ memory_line)
    → (bytes ≡ memory_line → ⊥) → bytes ≡ text → SaysToAll (line ∷ []) s text last → IsOneText c s last bytes
unfolding Says Replies
one_text c line s last text bytes asks short made is (between, (first, (rest, (whole, (says, (none, same)))))) =
    let all : bytes ≡ first = is ∙ (whole ∙ (ap (λ (xs : List ℕ). first ++ xs) none ∙ append-nil first)) in
    let here : Says s (request.Command c) first between = subst (λ (r : Request). Says s r first between) asks says in
    let there : Says s (request.Command c) bytes between = subst (λ (t : List ℕ). Says s (request.Command c) t between) (sym all) here in
    record { between = between; says = said c s between bytes (short s between bytes) made there.0 }

pub wrote : (c : Command) (input line : List ℕ) (s : Seen) (bytes : List ℕ) → lines_of input ≡ line ∷ [] → request_of line ≡ request.Command c
    → ((old new : Seen) (t : List ℕ) → IsShort c old t new → t ≡ memory_line) → (w : HasWritten input s bytes) → IsOneText c s w.last bytes
unfolding Runs
wrote c input line s bytes lines asks short w =
    let h = w.runs in
    let read = all_read input h.0 w.left h.1.0 h.1.1.0 in
    let answered = h.1.1.1 in
    let P : Texts → Type 0 = λ all. SaysToAll all s answered.0 w.last in
    let one : P (line ∷ []) = subst P lines (subst (λ (xs : List ℕ). P (lines_of xs)) read answered.1.0) in
    one_text c line s w.last answered.0 bytes asks short w.made answered.1.1 one

-- ---- the two lines

picture_lines : lines_of (codes "write ppm\n") ≡ codes "write ppm" ∷ []
unfolding lines_of ended_lines_of
picture_lines = refl

picture_asks : request_of (codes "write ppm") ≡ request.Command command.WritePpm
unfolding request_of words_of is_blank
picture_asks = refl

cert_lines : lines_of (codes "certify\n") ≡ codes "certify" ∷ []
unfolding lines_of ended_lines_of
cert_lines = refl

cert_asks : request_of (codes "certify") ≡ request.Command command.Certify
unfolding request_of words_of is_blank
cert_asks = refl

pub printed : (s : Seen) → PairsAreAccepted s → PrintedAreAccepted s
printed s law picture cert p =
    let one = wrote command.WritePpm (codes "write ppm\n") (codes "write ppm") p.at_picture picture picture_lines picture_asks (λ old new t h. h.0) p.writes in
    let other = wrote command.Certify (codes "certify\n") (codes "certify") p.at_cert cert cert_lines cert_asks (λ old new t h. h.0) p.certifies in
    law picture cert (record {
      at_picture = p.at_picture;
      behind_picture = one.between;
      same_picture = p.same_picture;
      writes = one.says;
      at_cert = p.at_cert;
      behind_cert = other.between;
      same_cert = p.same_cert;
      certifies = other.says;
      not_ambiguous = p.not_ambiguous;
    })

pub started_printed : ((file : List ℕ) (options : Options) (s : Seen) → IsStarted file options s → PairsAreAccepted s) → StartedAreAccepted
started_printed law file options s is = printed s (law file options s is)

-- ---- the file

opened_ppm : (file : List ℕ) (options : Options) (d : Design) → options.non ≡ false → OpensFile file options (Ok d) → Ok d ≡ after_edit None (ppm_of file options.background)
opened_ppm file options d p opens = subst (λ (non : Bool). OpensAs non file options.background (Ok d)) p opens

same_design : (d e : Design) (r : Result Design ProgramFault) → Ok d ≡ r → Ok e ≡ r → d ≡ e
same_design d e r p q = cc

pub one_document : OneFileIsOneDocument
one_document file options one other p a b =
    let same = same_design a.document b.document _ (opened_ppm file options a.document p a.opens) (opened_ppm file options b.document p b.opens) in
    a.begins.history ∙ (ap (λ (d : Design). history d [] [] options.history) same ∙ sym b.begins.history)

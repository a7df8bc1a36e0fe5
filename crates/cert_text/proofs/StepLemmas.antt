-- Lines cut into words, by their number.
use Rattle.std.proofs.Common.{◌≡◌, ℕ, ◌<◌, eqb, List, [], ◌∷◌, Option, None, length, refl, sym, ap, ◌∙◌, arith}
use Rattle.std.proofs.lemmas.List.Splits.{length-slice_split}
use Rattle.cert_text.specs.declared.cert_line.CertLine.{CertLine}
use Rattle.cert_text.specs.Steps.{by_words, four_words, lemma_line, one_word, three_words, two_words}
use Rattle.cert_text.specs.Text.{words_of}

-- what a line names, by the number of its words

module _ (line : List ℕ) (named : Option CertLine) where
  pub of_one : words_of line ≡ line ∷ [] → named ≡ one_word line → named ≡ lemma_line line
  unfolding lemma_line
  of_one e n = n ∙ sym (ap by_words e)

  pub of_two : (word behind : List ℕ) → words_of line ≡ word ∷ words_of behind → words_of behind ≡ behind ∷ [] → named ≡ two_words word behind → named ≡ lemma_line line
  unfolding lemma_line
  of_two word behind e f n = n ∙ sym (ap by_words (e ∙ ap (λ (ws : List (List ℕ)). word ∷ ws) f))

  pub of_three : (word first behind last : List ℕ) → words_of line ≡ word ∷ words_of behind → words_of behind ≡ first ∷ words_of last → words_of last ≡ last ∷ [] → named ≡ three_words word first last
      → named ≡ lemma_line line
  unfolding lemma_line
  of_three word first behind last e f g n = n ∙ sym (ap by_words (e ∙ ap (λ (ws : List (List ℕ)). word ∷ ws) (f ∙ ap (λ (ws : List (List ℕ)). first ∷ ws) g)))

  pub of_four : (word first second behind third last : List ℕ) → words_of line ≡ word ∷ words_of behind → words_of behind ≡ first ∷ words_of third → words_of third ≡ second ∷ words_of last
      → words_of last ≡ last ∷ [] → named ≡ four_words word first second last → named ≡ lemma_line line
  unfolding lemma_line
  of_four word first second behind third last e f g h n =
      n ∙ sym (ap by_words (e ∙ ap (λ (ws : List (List ℕ)). word ∷ ws) (f ∙ ap (λ (ws : List (List ℕ)). first ∷ ws) (g ∙ ap (λ (ws : List (List ℕ)). second ∷ ws) h))))

five_words : (a b c d : List ℕ) (words : List (List ℕ)) → 0 < length words → by_words (a ∷ b ∷ c ∷ d ∷ words) ≡ None
five_words a b c d [] some = absurd (omega (arith, some))
five_words a b c d (next ∷ words) some = refl

pub of_more : (line word first second behind third fourth last rest : List ℕ) → words_of line ≡ word ∷ words_of behind → words_of behind ≡ first ∷ words_of third
    → words_of third ≡ second ∷ words_of last → words_of last ≡ fourth ∷ words_of rest → None ≡ lemma_line line
unfolding lemma_line
of_more line word first second behind third fourth last rest e f g h =
    sym (ap by_words (e ∙ ap (λ (ws : List (List ℕ)). word ∷ ws) (f ∙ ap (λ (ws : List (List ℕ)). first ∷ ws) (g ∙ ap (λ (ws : List (List ℕ)). second ∷ ws) h)))
    ∙ five_words word first second fourth (words_of rest) (omega (arith, length-slice_split (λ b. eqb b 32) rest)))

pub ruleset by_count = (of_one, of_two, of_three, of_four, of_more)

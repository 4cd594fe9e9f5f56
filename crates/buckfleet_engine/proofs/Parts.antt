-- What is answered to the parts of an input.
use Rattle.std.proofs.Common.{◌≡◌, ℕ, ◌+◌, inl, inr, List, Option, Some, None, Result, Ok, Err, IfSome, length-drop, ap, subst, arith}
use Rattle.std.proofs.lemmas.List.{length-take}
use Rattle.std.specs.List.{after_first, before_first, position_or_len}
use Rattle.std.specs.Option.{option_map}
use Rattle.buck_apt.specs.Apt.{apt_of}
use Rattle.buck_stem.specs.Stm.{stm_of}
use Rattle.buckfleet_engine_files.specs.declared.fault.EngineFault.{EngineFault}
use Rattle.buckfleet_engine_files.specs.declared.fault.EngineFault.TheVariants.{Apt, Stm}
use Rattle.buckfleet_engine_files.specs.Reading.{IsFileFault, IsWithinLimit, Says, AreRefused}
use Rattle.buckfleet_engine.specs.run.Bucking.{AnswersBare, apt_part, is_bar, stm_part}
use Rattle.buckfleet_engine.specs.inner.Reading.{AnswersBytes}

-- what the bytes say that a file gave
pub says : {V F : Type 0} (reading : List ℕ → Result V F) (file : Option (List ℕ)) (bytes : List ℕ)
    (answer : Result V F)
    → IfSome file (λ input. bytes ≡ input) → IsWithinLimit bytes → reading bytes ≡ answer → Says reading file answer
says reading None bytes answer are within e = tt
says reading (Some input) bytes answer are within e =
    subst (λ (b : List ℕ). IsWithinLimit b × (reading b ≡ answer)) are (within, e)

-- the bytes were refused
pub refused : {V F : Type 0} (number : ℕ) (named : F → EngineFault) (reading : List ℕ → Result V F)
    (file : Option (List ℕ)) (bytes : List ℕ) (fault : EngineFault)
    → IfSome file (λ input. bytes ≡ input) → IsWithinLimit bytes → AreRefused named reading bytes fault
    → IsFileFault number named reading file fault
refused number named reading file bytes fault are within (inl memory) = inr (inl memory)
refused number named reading file bytes fault are within (inr (why, is, e)) =
    inr (inr (why, is, says reading file bytes (Err why) are within e))

-- what is made of the bytes of a file is made of the file
part : {A B : Type 0} (f : A → B) (known : Option A) (x : A) → IfSome known (λ y. x ≡ y)
    → IfSome (option_map f known) (λ y. f x ≡ y)
part f None x is = tt
part f (Some y) x is = ap f is

whole : (input : Option (List ℕ)) (bytes : List ℕ) → IfSome input (λ known. bytes ≡ known) → IsWithinLimit bytes
    → IfSome input IsWithinLimit
whole None bytes are within = tt
whole (Some known) bytes are within = subst IsWithinLimit are within

-- what is answered to the parts of an input
pub bare_answer : (input : Option (List ℕ)) (bytes : List ℕ) (r : Result (List ℕ) EngineFault)
    → IfSome input (λ known. bytes ≡ known) → IsWithinLimit bytes
    → AnswersBytes (before_first is_bar bytes) (after_first is_bar bytes) r → AnswersBare input r
bare_answer input bytes r are within a =
    let before : IsWithinLimit (before_first is_bar bytes) =
    omega (arith, within, length-take (position_or_len is_bar bytes) bytes) in
    let after : IsWithinLimit (after_first is_bar bytes) =
    omega (arith, within, length-drop (position_or_len is_bar bytes + 1) bytes) in
    elim r as (λ x. AnswersBytes (before_first is_bar bytes) (after_first is_bar bytes) x → AnswersBare input x) [
      | Ok text ↦ λ found. (
        whole input bytes are within,
        record {
          instruction = found.instruction;
          stems = found.stems;
          apt_says = says apt_of (apt_part input) _ _ (part (before_first is_bar) input bytes are) before found.apt_is;
          stm_says = says stm_of (stm_part input) _ _ (part (after_first is_bar) input bytes are) after found.stm_is;
          text_is = found.text_is;
        },
      )
      | Err fault ↦ λ found. elim found [
        | inl apt ↦
            inl (refused 0 Apt apt_of (apt_part input) _ fault (part (before_first is_bar) input bytes are) before apt)
        | inr stm ↦ inr (
          (stm.0, says apt_of (apt_part input) _ _ (part (before_first is_bar) input bytes are) before stm.1),
          refused 0 (Stm 1) stm_of (stm_part input) _ fault (part (after_first is_bar) input bytes are) after stm.2,
        )
      ]
    ] a

-- The check of an answer as numbers: what a yes gives, and what a wrong line gives.
-- Assumes nothing.
use Prim.Native.Nat.{ℕ, ◌-◌}
use mathlib.Core.Path.{◌≡◌, sym, ◌∙◌, ap}
use mathlib.Core.List.{List}
use native.Mathlib.Nat.{sub_self}
use lib.ListN.{length}
use Rattle.std.specs.Prelude.{Result, Ok, Err}
use Rattle.review.specs.declared.WrongLine.{WrongLine}
use Rattle.review.specs.Checking.{check_of, given}
use Rattle.sagecruet.specs.Numbers.{of_check}

module _ (job claimed : List ℕ) {found : Result (Unit {0}) WrongLine} (e : found ≡ check_of job claimed) where
  told : {case : Result (Unit {0}) WrongLine} → found ≡ case → of_check (given claimed case) ≡ of_check (given claimed (check_of job claimed))
  told h = ap (λ (f : Result (Unit {0}) WrongLine). of_check (given claimed f)) (sym h ∙ e)

  pub right_told : found ≡ Ok tt → record { line = 0; from = length claimed; len = 0 } ≡ of_check (given claimed (check_of job claimed))
  right_told h = let none = sub_self (length claimed) in (λ i. record { line = 0; from = length claimed; len = sym none i }) ∙ told h

  pub wrong_told : {wrong : WrongLine} → found ≡ Err wrong → record { line = wrong.line; from = wrong.from; len = wrong.to - wrong.from } ≡ of_check (given claimed (check_of job claimed))
  wrong_told h = told h

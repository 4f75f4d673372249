-- The reach of one edit, of the clash of a and b (01, "Calls"). It is given by the old and the new clashes.
use Rattle.std.specs.Prelude.{Bool, ◌&&◌, ◌||◌, not, List, ℕ, eqb}
use Rattle.rule.specs.Lists.{upto, filter, some}
use Rattle.rule.specs.Graph.{Graph, earlier, later, order, added, struck}
use Rattle.rule.specs.Wave.{wave}
use Rattle.rule.specs.declared.Kind.{Kind}
use Rattle.rule.specs.declared.Kind.TheVariants.{Adding, Striking}

-- the new clashes: the old ones with that of a and b added or struck
unfoldable pub edited : Kind → Graph → ℕ → ℕ → Graph
edited Adding old a b = added old a b
edited Striking old a b = struck old a b

-- the kind of the edit that takes an edit back
abbrev pub inverse : Kind → Kind
inverse Adding = Striking
inverse Striking = Adding

-- the rule wave of x changed
unfoldable pub changed : Graph → Graph → ℕ → Bool
changed old new x = not (eqb (wave old x) (wave new x))

-- (i) x is a or b
unfoldable pub is_named : ℕ → ℕ → ℕ → Bool
is_named a b x = eqb x a || eqb x b

-- (ii) x is a neighbour, after the edit, of y that was earlier than it and is now later (add), or was later and is now earlier (strike)
unfoldable pub is_turned : Kind → Graph → Graph → ℕ → ℕ → Bool
is_turned Adding old new y x = new.clash y x && (earlier old x y && later new x y)
is_turned Striking old new y x = new.clash y x && (later old x y && earlier new x y)

-- (iii) x clashes with an earlier bank, in the new order, whose rule wave changed
unfoldable pub is_reached : Graph → Graph → ℕ → Bool
is_reached old new x = some (λ v. new.clash v x && earlier new v x && changed old new v) (upto new.banks)

-- x is one of (i), (ii), of a or of b, and (iii)
unfoldable pub on_trail : Kind → Graph → Graph → ℕ → ℕ → ℕ → Bool
on_trail k old new a b x = (is_named a b x || (is_turned k old new a x || is_turned k old new b x)) || is_reached old new x

-- the trail: the banks taken up, in the new order
unfoldable pub trail : Kind → Graph → Graph → ℕ → ℕ → List ℕ
trail k old new a b = filter (on_trail k old new a b) (order new)

-- the moved list: the banks whose rule wave changed, in the new order
unfoldable pub moved : Graph → Graph → List ℕ
moved old new = filter (changed old new) (order new)

-- x is a, b or a moved bank
unfoldable pub in_core : Graph → Graph → ℕ → ℕ → ℕ → Bool
in_core old new a b x = is_named a b x || changed old new x

-- a, b, the moved banks and all neighbours of these after the edit: what bounds the trail count
unfoldable pub around : Graph → Graph → ℕ → ℕ → List ℕ
around old new a b =
    filter (λ x. in_core old new a b x || some (λ v. new.clash v x && in_core old new a b v) (upto new.banks)) (upto new.banks)

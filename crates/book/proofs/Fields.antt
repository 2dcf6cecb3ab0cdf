-- Conics are equal if their coefficients are. Assumes nothing.
use mathlib.Core.Path.{◌≡◌}
use Rattle.conic.specs.declared.conic.Conic.{Conic}

pub same_conic :
    {h k : Conic} → h.a ≡ k.a → h.b ≡ k.b → h.c ≡ k.c → h.d ≡ k.d → h.e ≡ k.e → h.f ≡ k.f → h ≡ k
same_conic a b c d e f = λ i. record { a = a i; b = b i; c = c i; d = d i; e = e i; f = f i }

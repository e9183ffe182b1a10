-- Two bins as one: S and U are their states, and T the type of the items.
abbrev pub paired : {S U T : Type 0} → (S → T → S) → (U → T → U) → S × U → T → S × U
paired f h s x = (f s.0 x, h s.1 x)

-- No second answer: each is the end of one path through the same tests.

-- a test, and what comes of it: it fails, or it passes
pub data Step (P no yes : Type 0) : Type 0 where
  isn't : (P → ⊥) → no → Step P no yes
  is : P → yes → Step P no yes

-- two ends of such paths lie behind the same outcome
pub step-one : {P A B A' B' C : Type 0} → Step P A B → Step P A' B' → (A → A' → C) → (B → B' → C) → C
step-one (isn't n a) (isn't m b) f g = f a b
step-one (isn't n a) (is p b) f g = absurd (n p)
step-one (is p a) (isn't n b) f g = absurd (n p)
step-one (is p a) (is q b) f g = g a b

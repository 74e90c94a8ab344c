-- Worked examples of each kind of line.
use Rattle.std.specs.Prelude.{◌≡◌, refl, true, false, [], ◌∷◌, negsuc, Some, None}
use Rattle.text.specs.Text.{digits_of, value_text}
use Rattle.quorum.specs.Sets.{set_bits, has_replica}
use Rattle.method.specs.declared.Body.TheVariants.{Ask, Keep}
use Rattle.method.specs.declared.Goal.TheVariants.{Read, Write}
use Rattle.method.specs.declared.Phase.TheVariants.{Asking, Keeping}
use Rattle.lines.specs.Lines.{each_below, slot_line, client_line, sizes_line, fault_line}
use Rattle.lines.specs.Examples.{nine, below}

-- `slot 2 ask client 0 replica 2 cell 0 op 1`
pub ask_line : slot_line 2 (Some (record { client = record { 0 = 0 }; replica = record { 0 = 2 }; cell = record { 0 = 0 }; op = 1; body = Ask }))
    ≡ 115 ∷ 108 ∷ 111 ∷ 116 ∷ 32 ∷ 50 ∷ 32 ∷ 97 ∷ 115 ∷ 107 ∷ 32 ∷ 99 ∷ 108 ∷ 105 ∷ 101 ∷ 110 ∷ 116 ∷ 32 ∷ 48 ∷ 32 ∷ 114 ∷ 101 ∷ 112 ∷ 108 ∷ 105 ∷ 99 ∷ 97 ∷ 32 ∷ 50 ∷ 32 ∷ 99 ∷ 101
    ∷ 108 ∷ 108 ∷ 32 ∷ 48 ∷ 32 ∷ 111 ∷ 112 ∷ 32 ∷ 49 ∷ 10 ∷ []
unfolding digits_of
ask_line = refl

-- `slot 3 keep client 0 replica 2 cell 0 op 1 pair 1.0=9`
pub keep_line : slot_line 3 (Some (record { client = record { 0 = 0 }; replica = record { 0 = 2 }; cell = record { 0 = 0 }; op = 1; body = Keep nine }))
    ≡ 115 ∷ 108 ∷ 111 ∷ 116 ∷ 32 ∷ 51 ∷ 32 ∷ 107 ∷ 101 ∷ 101 ∷ 112 ∷ 32 ∷ 99 ∷ 108 ∷ 105 ∷ 101 ∷ 110 ∷ 116 ∷ 32 ∷ 48 ∷ 32 ∷ 114 ∷ 101 ∷ 112 ∷ 108 ∷ 105 ∷ 99 ∷ 97 ∷ 32 ∷ 50 ∷ 32 ∷
    99 ∷ 101 ∷ 108 ∷ 108 ∷ 32 ∷ 48 ∷ 32 ∷ 111 ∷ 112 ∷ 32 ∷ 49 ∷ 32 ∷ 112 ∷ 97 ∷ 105 ∷ 114 ∷ 32 ∷ 49 ∷ 46 ∷ 48 ∷ 61 ∷ 57 ∷ 10 ∷ []
unfolding digits_of value_text
keep_line = refl

-- `client 1 stopped idle op 4`
pub stopped_line : client_line 1
    (record { stopped = true; op = 4; work = None }) ≡ 99 ∷ 108 ∷ 105 ∷ 101 ∷ 110 ∷ 116 ∷ 32 ∷ 49 ∷ 32 ∷ 115 ∷ 116 ∷ 111 ∷ 112 ∷ 112 ∷ 101 ∷ 100 ∷ 32 ∷ 105 ∷ 100 ∷ 108 ∷ 101 ∷ 32 ∷
    111 ∷ 112 ∷ 32 ∷ 52 ∷ 10 ∷ []
unfolding digits_of
stopped_line = refl

-- `client 1 asking read cell 2 op 3 from 0 2 held 1.0=9`
pub asking_line : client_line 1 (record { stopped = false; op = 3; work = Some (record { cell = record { 0 = 2 }; goal = Read; phase = Asking (Some nine); set = 5 }) })
    ≡ 99 ∷ 108 ∷ 105 ∷ 101 ∷ 110 ∷ 116 ∷ 32 ∷ 49 ∷ 32 ∷ 97 ∷ 115 ∷ 107 ∷ 105 ∷ 110 ∷ 103 ∷ 32 ∷ 114 ∷ 101 ∷ 97 ∷ 100 ∷ 32 ∷ 99 ∷ 101 ∷ 108 ∷ 108 ∷ 32 ∷ 50 ∷ 32 ∷ 111 ∷ 112 ∷ 32 ∷
    51 ∷ 32 ∷ 102 ∷ 114 ∷ 111 ∷ 109 ∷ 32 ∷ 48 ∷ 32 ∷ 50 ∷ 32 ∷ 104 ∷ 101 ∷ 108 ∷ 100 ∷ 32 ∷ 49 ∷ 46 ∷ 48 ∷ 61 ∷ 57 ∷ 10 ∷ []
unfolding digits_of value_text each_below set_bits has_replica
asking_line = refl

-- `client 1 asking read cell 2 op 3 from none held none`
pub asked_line : client_line 1 (record { stopped = false; op = 3; work = Some (record { cell = record { 0 = 2 }; goal = Read; phase = Asking None; set = 0 }) })
    ≡ 99 ∷ 108 ∷ 105 ∷ 101 ∷ 110 ∷ 116 ∷ 32 ∷ 49 ∷ 32 ∷ 97 ∷ 115 ∷ 107 ∷ 105 ∷ 110 ∷ 103 ∷ 32 ∷ 114 ∷ 101 ∷ 97 ∷ 100 ∷ 32 ∷ 99 ∷ 101 ∷ 108 ∷ 108 ∷ 32 ∷ 50 ∷ 32 ∷ 111 ∷ 112 ∷ 32 ∷
    51 ∷ 32 ∷ 102 ∷ 114 ∷ 111 ∷ 109 ∷ 32 ∷ 110 ∷ 111 ∷ 110 ∷ 101 ∷ 32 ∷ 104 ∷ 101 ∷ 108 ∷ 100 ∷ 32 ∷ 110 ∷ 111 ∷ 110 ∷ 101 ∷ 10 ∷ []
unfolding digits_of
asked_line = refl

-- `client 1 keeping write -5 cell 2 op 3 from none held 2.1=-5`
pub keeping_line : client_line 1 (record { stopped = false; op = 3; work = Some (record { cell = record { 0 = 2 }; goal = Write (negsuc 4); phase = Keeping below; set = 0 }) })
    ≡ 99 ∷ 108 ∷ 105 ∷ 101 ∷ 110 ∷ 116 ∷ 32 ∷ 49 ∷ 32 ∷ 107 ∷ 101 ∷ 101 ∷ 112 ∷ 105 ∷ 110 ∷ 103 ∷ 32 ∷ 119 ∷ 114 ∷ 105 ∷ 116 ∷ 101 ∷ 32 ∷ 45 ∷ 53 ∷ 32 ∷ 99 ∷ 101 ∷ 108 ∷ 108 ∷ 32 ∷
    50 ∷ 32 ∷ 111 ∷ 112 ∷ 32 ∷ 51 ∷ 32 ∷ 102 ∷ 114 ∷ 111 ∷ 109 ∷ 32 ∷ 110 ∷ 111 ∷ 110 ∷ 101 ∷ 32 ∷ 104 ∷ 101 ∷ 108 ∷ 100 ∷ 32 ∷ 50 ∷ 46 ∷ 49 ∷ 61 ∷ 45 ∷ 53 ∷ 10 ∷ []
unfolding digits_of value_text
keeping_line = refl

-- `rack 3 1 1`
pub rack_line : sizes_line (record { replicas = 3; clients = 1; cells = 1 }) ≡ 114 ∷ 97 ∷ 99 ∷ 107 ∷ 32 ∷ 51 ∷ 32 ∷ 49 ∷ 32 ∷ 49 ∷ 10 ∷ []
unfolding digits_of
rack_line = refl

-- `refused 15 at byte 6`
pub refused_line_lem : fault_line 15 6 ≡ 114 ∷ 101 ∷ 102 ∷ 117 ∷ 115 ∷ 101 ∷ 100 ∷ 32 ∷ 49 ∷ 53 ∷ 32 ∷ 97 ∷ 116 ∷ 32 ∷ 98 ∷ 121 ∷ 116 ∷ 101 ∷ 32 ∷ 54 ∷ 10 ∷ []
unfolding digits_of fault_line
refused_line_lem = refl

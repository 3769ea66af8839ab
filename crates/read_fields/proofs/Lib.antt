pub mod VarUInts

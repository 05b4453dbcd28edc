mod Composing
